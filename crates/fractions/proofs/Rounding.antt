-- THE ERROR OF ONE ROUNDING: a fraction of magnitude at most B, for a B from 1 to 2 ^ 60, is rounded to a finite value that differs from it by at most B / 2 ^ prec. Linear in B, so
-- no exponent is carried, and subnormal results need no case of their own. Assumes nothing.
use mathlib.Core.Path.{◌≡◌, refl, sym, ap, subst}
use mathlib.Core.Bool.{Bool, true, false}
use Prim.Native.Nat.{ℕ, ◌+◌, ◌*◌, ◌^◌, ◌≤◌, ◌<◌}
use native.Mathlib.Nat.{mul-le-mul_right, le_of_mul-le-mul_right}
use native.Mathlib.Omega.{arith}
use lib.IntN.{ℤ, pos, negsuc}
use lib.Pow.{pow-add, pow_pos}
use lib.Ieee.{Float, nan, inf, fin, Format, prec, low, up, down, round}
use lib.Ieee.Fits.{round_is}
use lib.Ieee.Exact.{HasValue, units_val}
use lib.Ieee.Order.{drop, kept}
use lib.Ieee.Scale.{grid}
use Rattle.floats.specs.Order.{is_finite}
use Rattle.exact.specs.Integer.{Integer, integer, negate_if, ◌≐◌, Within}
use Rattle.exact.proofs.Integers.Products.{magnitude_within}
use Rattle.fractions.specs.Fraction.{Fraction, ◌⊙◌, ◌⊟◌, AtMost, Finite, places_of, value_of}
use Rattle.fractions.proofs.Nearest.{grid_error, grid_under}

-- x is the fraction r, rounded to the format f
abbrev pub Rounds : Format → Float → Fraction → Type 0
Rounds f x r = (B : ℕ) → 1 ≤ B → B ≤ 2 ^ 60 → AtMost B 0 r → Finite x × AtMost B (prec f) (value_of x ⊟ r)

pub down_is : (e : ℤ) → down e ≡ 2 ^ places_of e
down_is (pos k) = refl
down_is (negsuc k) = refl

value_finite : (x : Float) (s : Bool) (a c : ℕ) → HasValue x s a c → Finite x
unfolding is_finite
value_finite nan s a c h = h
value_finite (inf t) s a c h = h
value_finite (fin t m e) s a c h = tt

-- |M / D − a / c| from |G / L − a / c|, where M / D is G / L
module _ (M D G L a c p B : ℕ) (L> : 0 < L) (e : M * L ≡ G * D)
    (h : (G * c * p ≤ a * L * p + B * L * c) × (a * L * p ≤ G * c * p + B * L * c)) where
  over_value : (M * c * p ≤ a * D * p + B * (D * c)) × (a * D * p ≤ M * c * p + B * (D * c))
  over_value =
      let x : G * c * p * D ≤ (a * L * p + B * L * c) * D = mul-le-mul_right D h.0 in
      let y : a * L * p * D ≤ (G * c * p + B * L * c) * D = mul-le-mul_right D h.1 in
      let z : M * L * (c * p) ≡ G * D * (c * p) = ap (λ (z : ℕ). z * (c * p)) e in
      let v : M * c * p * L ≤ (a * D * p + B * (D * c)) * L = omega arith in
      let w : a * D * p * L ≤ (M * c * p + B * (D * c)) * L = omega arith in
      (le_of_mul-le-mul_right v L>, le_of_mul-le-mul_right w L>)

value_near : (f : Format) (x : Float) (s : Bool) (G a t B : ℕ) (i : Integer) → negate_if s (integer a) ≐ i → HasValue x s G (2 ^ low f)
    → (G * 2 ^ t * 2 ^ prec f ≤ a * 2 ^ low f * 2 ^ prec f + B * 2 ^ low f * 2 ^ t) × (a * 2 ^ low f * 2 ^ prec f ≤ G * 2 ^ t * 2 ^ prec f + B * 2 ^ low f * 2 ^ t)
    → AtMost B (prec f) (value_of x ⊟ record { num = i; places = t })
value_near f nan s G a t B i e v h = absurd v
value_near f (inf z) s G a t B i e v h = absurd v
value_near f (fin z m d) s G a t B i e v h =
    let k = over_value (m * up d) (2 ^ places_of d) G (2 ^ low f) a (2 ^ t) (2 ^ prec f) B (pow_pos (low f)) (subst (λ (y : ℕ). m * up d * 2 ^ low f ≡ G * y) (down_is d) v.1) h in
    subst (λ (z : Bool). AtMost B (prec f) (record { num = negate_if z (integer (m * up d)); places = places_of d } ⊟ record { num = i; places = t })) (sym v.0)
    (rw (pow-add 2 (places_of d) t) (signs s e k))
  where
    signs : (s : Bool) → negate_if s (integer a) ≐ i
        → (m * up d * 2 ^ t * 2 ^ prec f ≤ a * 2 ^ places_of d * 2 ^ prec f + B * (2 ^ places_of d * 2 ^ t)) × (a * 2 ^ places_of d * 2 ^ prec f ≤ m * up d * 2 ^ t * 2 ^ prec f + B * (2 ^ places_of d * 2 ^ t))
        → Within (B * (2 ^ places_of d * 2 ^ t)) ((record { num = negate_if s (integer (m * up d)); places = places_of d } ⊟ record { num = i; places = t }).num ⊙ 2 ^ prec f)
    signs false e k =
        let y : (a + i.neg) * (2 ^ places_of d * 2 ^ prec f) ≡ (i.pos + 0) * (2 ^ places_of d * 2 ^ prec f) = ap (λ (z : ℕ). z * (2 ^ places_of d * 2 ^ prec f)) e in
        record { above = omega (arith, k.1); below = omega (arith, k.0) }
    signs true e k =
        let y : (0 + i.neg) * (2 ^ places_of d * 2 ^ prec f) ≡ (i.pos + a) * (2 ^ places_of d * 2 ^ prec f) = ap (λ (z : ℕ). z * (2 ^ places_of d * 2 ^ prec f)) e in
        record { above = omega (arith, k.0); below = omega (arith, k.1) }

pub round_rounds : (f : Format) (s : Bool) (a c t : ℕ) (i : Integer) → c ≡ 2 ^ t → negate_if s (integer a) ≐ i → Rounds f (round f s a c) (record { num = i; places = t })
round_rounds f s a c t i q e B one most r =
    subst (λ (c : ℕ). Finite (round f s a c) × AtMost B (prec f) (value_of (round f s a c) ⊟ record { num = i; places = t })) (sym q)
    (value_finite (round f s a (2 ^ t)) s (grid f a (2 ^ t)) (2 ^ low f) value, value_near f (round f s a (2 ^ t)) s (grid f a (2 ^ t)) a t B i e value (grid_error f a (2 ^ t) B (pow_pos t) one small))
  where
    small : a ≤ B * 2 ^ t
    small = magnitude_within (B * 2 ^ t) s a i e (record { above = omega (arith, r.above); below = omega (arith, r.below) })

    value : HasValue (round f s a (2 ^ t)) s (grid f a (2 ^ t)) (2 ^ low f)
    value =
        let n = a * 2 ^ low f in
        subst (λ (z : Float). HasValue z s (grid f a (2 ^ t)) (2 ^ low f)) (sym (round_is f s a (2 ^ t)))
        (units_val f s (kept (prec f) n (2 ^ t)) (drop (prec f) n (2 ^ t)) (grid_under f a (2 ^ t) B (pow_pos t) one small most))
