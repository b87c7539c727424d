-- The fused operation where an operand is a NaN or an infinity.
-- Assumes nothing.
use mathlib.Core.Path.{◌≡◌, refl, sym, subst}
use mathlib.Core.Bool.{Bool}
use Prim.Native.Nat.{ℕ}
use lib.Ieee.{Float, nan, inf, fin, Format, add, mul}
use lib.Ieee.Exact.{HasValue}
use Rattle.fused.specs.Fma.{fma}

-- ---- where an operand is no finite number
pub fma_nan_first : (f : Format) (y z : Float) → fma f nan y z ≡ nan
unfolding fma
fma_nan_first f y z = refl

add_nan : (f : Format) (v : Float) → add f v nan ≡ nan
unfolding add
add_nan f nan = refl
add_nan f (inf s) = refl
add_nan f (fin s m e) = refl

pub fma_nan_second : (f : Format) (x z : Float) → fma f x nan z ≡ nan
unfolding fma
fma_nan_second f nan z = refl
fma_nan_second f (inf s) z = refl
fma_nan_second f (fin s m e) z = refl

pub fma_nan_third : (f : Format) (x y : Float) → fma f x y nan ≡ nan
unfolding fma
fma_nan_third f nan y = refl
fma_nan_third f (inf s) y = add_nan f (mul f (inf s) y)
fma_nan_third f (fin s m e) nan = refl
fma_nan_third f (fin s m e) (inf t) = add_nan f (mul f (fin s m e) (inf t))
fma_nan_third f (fin s m e) (fin t n d) = refl

pub fma_infinite_first : (f : Format) (x y z : Float) (s : Bool) → x ≡ inf s → add f (mul f x y) z ≡ fma f x y z
unfolding fma
fma_infinite_first f x y z s e = subst (λ (k : Float). add f (mul f k y) z ≡ fma f k y z) (sym e) at
  where
    at : add f (mul f (inf s) y) z ≡ fma f (inf s) y z
    at = refl

pub fma_infinite_second : (f : Format) (x y z : Float) (s : Bool) (a c : ℕ) (t : Bool) → HasValue x s a c → y ≡ inf t → add f (mul f x y) z ≡ fma f x y z
unfolding fma
fma_infinite_second f x y z s a c t h e = subst (λ (k : Float). add f (mul f x k) z ≡ fma f x k z) (sym e) (at x h)
  where
    at : (x : Float) → HasValue x s a c → add f (mul f x (inf t)) z ≡ fma f x (inf t) z
    at nan h = absurd h
    at (inf u) h = absurd h
    at (fin u m g) h = refl

pub fma_infinite_third : (f : Format) (x y z : Float) (s : Bool) (a c : ℕ) (t : Bool) (b d : ℕ) (u : Bool) → HasValue x s a c → HasValue y t b d → z ≡ inf u → z ≡ fma f x y z
unfolding fma
fma_infinite_third f x y z s a c t b d u h k e = subst (λ (v : Float). v ≡ fma f x y v) (sym e) (at x y h k)
  where
    at : (x y : Float) → HasValue x s a c → HasValue y t b d → inf u ≡ fma f x y (inf u)
    at nan y h k = absurd h
    at (inf u) y h k = absurd h
    at (fin s m e) nan h k = absurd k
    at (fin s m e) (inf t) h k = absurd k
    at (fin s m e) (fin t n d) h k = refl
