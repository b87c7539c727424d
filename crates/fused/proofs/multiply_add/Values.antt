-- The fused operation on finite operands is one `sum`, by any fractions that the operands equal.
-- Assumes nothing.
use mathlib.Core.Path.{◌≡◌, sym, ◌∙◌, subst}
use mathlib.Core.Bool.{Bool}
use Prim.Native.Nat.{ℕ, ◌*◌, ◌^◌, ◌<◌}
use native.Mathlib.Nat.{mul_comm, mul_assoc, mul_left_comm, mul-pos}
use lib.Ieee.{Float, nan, inf, fin, Format, unlike, up, down, sum, binary64, of_bits}
use lib.Ieee.Fits.{down_pos}
use lib.Ieee.Exact.{HasValue}
use lib.Dec.{leb}
use lib.Pow.{pow_pos}
use Rattle.fused.specs.Fma.{fma}
use Rattle.rounding.specs.Fields.{exponent_field_of}
use Rattle.rounding.specs.Packed.{Encodes}
use Rattle.rounding.proofs.decode.Reading.{units_of, value}
use Rattle.fused.proofs.multiply_add.Sums.{sum_same, sum_swap}

-- ---- the fused operation on finite operands, by fractions with the denominator l that they equal; k scales both parts
product_by : (m e x n d y g l k : ℕ) → m * l ≡ x * e → n * l ≡ y * d → m * n * g * (l * l * k) ≡ x * y * k * (e * d * g)
product_by m e x n d y g l k p q = first ∙ (λ i. p i * q i * (g * k)) ∙ second
  where
    first : m * n * g * (l * l * k) ≡ m * l * (n * l) * (g * k)
    first = simp (mul_assoc, mul_left_comm)

    second : x * e * (y * d) * (g * k) ≡ x * y * k * (e * d * g)
    second = simp (mul_assoc, mul_comm, mul_left_comm)

addend_by : (n g z e d l k : ℕ) → n * l ≡ z * g → n * (e * d) * (l * l * k) ≡ z * (l * k) * (e * d * g)
addend_by n g z e d l k p = first ∙ (λ i. p i * (e * d * (l * k))) ∙ second
  where
    first : n * (e * d) * (l * l * k) ≡ n * l * (e * d * (l * k))
    first = simp (mul_assoc, mul_left_comm)

    second : z * g * (e * d * (l * k)) ≡ z * (l * k) * (e * d * g)
    second = simp (mul_assoc, mul_comm, mul_left_comm)

pub fma_at : (f : Format) (x y z : Float) (s t u : Bool) (X Y Z l k : ℕ) → 0 < l → 0 < k → HasValue x s X l → HasValue y t Y l → HasValue z u Z l
    → fma f x y z ≡ sum f (unlike s t) (X * Y * k) u (Z * (l * k)) (l * l * k)
unfolding fma
fma_at f nan y z s t u X Y Z l k L K a b c = absurd a
fma_at f (inf s') y z s t u X Y Z l k L K a b c = absurd a
fma_at f (fin s' m e) nan z s t u X Y Z l k L K a b c = absurd b
fma_at f (fin s' m e) (inf t') z s t u X Y Z l k L K a b c = absurd b
fma_at f (fin s' m e) (fin t' n d) nan s t u X Y Z l k L K a b c = absurd c
fma_at f (fin s' m e) (fin t' n d) (inf u') s t u X Y Z l k L K a b c = absurd c
fma_at f (fin s' m e) (fin t' n d) (fin u' h g) s t u X Y Z l k L K a b c =
    sum_same f (unlike s' t') (m * up e * (n * up d) * down g) u' (h * up g * (down e * down d)) (down e * down d * down g) (X * Y * k) (Z * (l * k)) (l * l * k)
    (mul-pos (mul-pos (down_pos e) (down_pos d)) (down_pos g)) (mul-pos (mul-pos L L) K)
    (product_by (m * up e) (down e) X (n * up d) (down d) Y (down g) l k a.1 b.1)
    (addend_by (h * up g) (down g) Z (down e) (down d) l k c.1)
    ∙ (λ i. sum f (unlike (a.0 i) (b.0 i)) (X * Y * k) (c.0 i) (Z * (l * k)) (l * l * k))

-- ---- the fused operation by patterns: s and P are the product's sign and size, t and Q the addend's, over 2 ^ 2274
module _ (x y z : ℕ) (f : exponent_field_of x ≡ 2047 → ⊥) (g : exponent_field_of y ≡ 2047 → ⊥) (h : exponent_field_of z ≡ 2047 → ⊥) {s t : Bool} {P Q : ℕ}
    (S : s ≡ unlike (leb (2 ^ 63) x) (leb (2 ^ 63) y)) (U : t ≡ leb (2 ^ 63) z) (p : P ≡ units_of x * units_of y * 2 ^ 126) (q : Q ≡ units_of z * 2 ^ 1200) where
  abbrev answer : Float
  answer = fma binary64 (of_bits binary64 x) (of_bits binary64 y) (of_bits binary64 z)

  fused_is : sum binary64 s P t Q (2 ^ 2274) ≡ answer
  fused_is =
      (λ i. sum binary64 (S i) (p i) (U i) (q i) (2 ^ 2274))
      ∙ sym (fma_at binary64 (of_bits binary64 x) (of_bits binary64 y) (of_bits binary64 z) (leb (2 ^ 63) x) (leb (2 ^ 63) y) (leb (2 ^ 63) z) (units_of x) (units_of y) (units_of z) (2 ^ 1074) (2 ^ 126) (pow_pos 1074) (pow_pos 126) (value x f) (value y g) (value z h))

  pub product_leads : (r : ℕ) → Encodes binary64 r (sum binary64 s P t Q (2 ^ 2274)) → Encodes binary64 r answer
  product_leads r w = subst (λ (v : Float). Encodes binary64 r v) fused_is w

  pub addend_leads : (r : ℕ) → Encodes binary64 r (sum binary64 t Q s P (2 ^ 2274)) → Encodes binary64 r answer
  addend_leads r w = subst (λ (v : Float). Encodes binary64 r v) (sum_swap binary64 t Q s P (2 ^ 2274) ∙ fused_is) w
