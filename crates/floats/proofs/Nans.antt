-- A NaN is what differs from itself, and what 0 / 0 gives; a finite float is none. Assumes nothing.
use mathlib.Core.Path.{◌≡◌, refl, sym, ap, ◌∙◌, subst}
use Prim.Native.Nat.{ℕ}
use mathlib.Core.Bool.{Bool, true, false, not, false≢true}
use lib.Dec.{T, not_T}
use lib.Ieee.{Float, nan, inf, fin, Format, binary32, binary64, is_nan, nan_bits, ne, eq, div, of_bits}
use lib.Ieee.Bits.{is_false, nan_bits_is}
use lib.Ieee.Compare.{differs_from_itself}
use Rattle.floats.specs.Order.{is_finite}

-- the test `x != x`
pub differs_is_nan : (x : Float) → ne x x ≡ is_nan x
unfolding ne eq is_nan
differs_is_nan nan = refl
differs_is_nan (inf true) = refl
differs_is_nan (inf false) = refl
differs_is_nan (fin s m e) = is_false (ne (fin s m e) (fin s m e)) (not_T (ne (fin s m e) (fin s m e)) (λ t. false≢true (ap is_nan (differs_from_itself (fin s m e) t))))

pub nan_of_differs : (x : Float) → ne x x ≡ true → x ≡ nan
nan_of_differs x h = differs_from_itself x (subst T (sym h) tt)

pub number_of_equal : (x : Float) → ne x x ≡ false → T (not (is_nan x))
number_of_equal x h = subst (λ (b : Bool). T (not b)) (sym h ∙ differs_is_nan x) tt

pub nan_of_test : (x : Float) → is_nan x ≡ true → x ≡ nan
unfolding is_nan
nan_of_test nan h = refl
nan_of_test (inf s) h = absurd (false≢true h)
nan_of_test (fin s m e) h = absurd (false≢true h)

pub number_of_test : (x : Float) → is_nan x ≡ false → T (not (is_nan x))
number_of_test x h = subst (λ (b : Bool). T (not b)) (sym h) tt

pub zero_by_zero : (f : Format) → div f (of_bits f 0) (of_bits f 0) ≡ nan
unfolding div of_bits
zero_by_zero binary32 = refl
zero_by_zero binary64 = refl

-- the constants `f32::NAN` and `f64::NAN`
pub nan_32 : of_bits binary32 0x7fc0_0000 ≡ nan
unfolding of_bits
nan_32 = refl

pub nan_64 : of_bits binary64 0x7ff8_0000_0000_0000 ≡ nan
unfolding of_bits
nan_64 = refl

finite_is_number : (x : Float) → is_finite x ≡ true → T (not (is_nan x))
unfolding is_finite is_nan
finite_is_number nan h = absurd (false≢true h)
finite_is_number (inf s) h = tt
finite_is_number (fin s m e) h = tt

-- what `f64::from_bits` asks of a pattern
pub finite_pattern : (f : Format) (n : ℕ) → is_finite (of_bits f n) ≡ true → T (not (nan_bits f n))
finite_pattern f n h = subst (λ (b : Bool). T (not b)) (sym (nan_bits_is f n)) (finite_is_number (of_bits f n) h)
