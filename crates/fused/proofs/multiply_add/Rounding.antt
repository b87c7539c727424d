-- The last two steps of the fused operation: the aligned sum by its cases, and its rounding.
-- Assumes nothing.
use mathlib.Core.Path.{◌≡◌, sym, ◌∙◌, subst}
use mathlib.Core.Logic.{inl, inr}
use mathlib.Core.Bool.{Bool, true, false, cond, beq}
use Prim.Native.Nat.{ℕ, ◌+◌, ◌-◌, ◌*◌, ◌^◌, ◌≤◌, ◌<◌}
use native.Mathlib.Nat.{le_trans, lt_of_le_of_lt, lt_of_lt_of_le, sub-le, add-zero, mul-one, mul-le-mul_left, le-add_right}
use native.Mathlib.Omega.{arith}
use lib.Dec.{lit<}
use lib.Pow.{pow_pos}
use lib.Bits.{bit_or}
use lib.Ieee.{Float, binary64, round, sum}
use Rattle.rounding.specs.RoundToOdd.{RoundsToOdd}
use Rattle.fused.specs.RoundToOdd.{RoundsWideToOdd}
use Rattle.rounding.specs.Packed.{packed, Encodes}
use Rattle.fused.specs.Wide.{LeadingWord, Operand}
use Rattle.fused.proofs.multiply_add.Alignment.{FarBelow, aligned, far_below, to_odd_in_units, wide_to_odd_difference, wide_to_odd_leading, wide_to_odd_positive, wide_to_odd_reversed, wide_to_odd_sum, wide_to_odd_zero}
use Rattle.rounding.proofs.nearest.Theorem.{encodes_rounded, encodes_zero, packed_le}
use Rattle.fused.proofs.multiply_add.Sums.{sum_alike, sum_less, sum_level, sum_more}
use Rattle.rounding.proofs.decode.Signs.{with_sign}
use Rattle.fused.proofs.Naturals.{sub_sub_cancel}

pub round_wide_zero : (s : Bool) (w e r n : ℕ) → r ≡ cond s (2 ^ 63) 0 → w ≡ 0 → RoundsWideToOdd w n (2 ^ e) → Encodes binary64 r (round binary64 s n (2 ^ 2274))
round_wide_zero s w e r n q z h =
    subst (λ (x : ℕ). Encodes binary64 x (round binary64 s n (2 ^ 2274))) (add-zero (cond s (2 ^ 63) 0) ∙ sym q)
    (encodes_zero binary64 s n (2 ^ 2274) (wide_to_odd_zero n (2 ^ e) (subst (λ (x : ℕ). RoundsWideToOdd x n (2 ^ e)) z h)) (pow_pos 2274))

pub round_wide_some : (s : Bool) (w e r n m u g : ℕ) → g ≡ cond s (2 ^ 63) 0 → LeadingWord w m u → r ≡ packed 53 2047 m (e + 64) (u + 1200) → RoundsWideToOdd w n (2 ^ e) → Encodes binary64 (bit_or g r) (round binary64 s n (2 ^ 2274))
round_wide_some s w e r n m u g q a p h =
    let y = packed 53 2047 m (e + 64) (u + 1200) in
    subst (λ (x : ℕ). Encodes binary64 x (round binary64 s n (2 ^ 2274)))
    (sym (with_sign s 63 y (lt_of_le_of_lt (packed_le 53 2047 m (e + 64) (u + 1200)) (lit< tt))) ∙ (λ i. bit_or (sym q i) (sym p i)))
    (encodes_rounded binary64 s n (2 ^ 2274) m (e + 64) (u + 1200) (pow_pos 2274) a.least a.under (to_odd_in_units n m e u 1074 1200 (wide_to_odd_leading w n e m u h a)))

-- ---- `aligned_sum`: x at the exponent e, and y at f, which shifted down to meet x is z, rounded to odd
module _ (s t : Bool) {X Y e f : ℕ} (z : ℕ) (A : Operand X e) (B : Operand Y f) (F : f ≤ e) (S : RoundsToOdd z Y (2 ^ (e - f))) where
  abbrev n : ℕ
  n = Y * 2 ^ f

  abbrev d : ℕ
  d = e - f

  leads : 0 < d → 2 ^ 124 ≤ X
  leads g = A.least (lt_of_lt_of_le g (sub-le e f))

  distant : FarBelow X z n (2 ^ e)
  distant =
      subst (λ (k : ℕ). FarBelow X z (Y * 2 ^ k) (2 ^ e)) (sub_sub_cancel f e F)
      (aligned X Y z d e (sub-le e f) B.even B.under leads S)

  -- z is no wider than the operands
  pub shifted_lt : z < 2 ^ 127
  shifted_lt = go (far_below X Y z d B.even B.under leads S)
    where
      go : FarBelow X z Y (2 ^ d) → z < 2 ^ 127
      go (inl q) = lt_of_le_of_lt (subst (λ (k : ℕ). z ≤ k) q (subst (λ (k : ℕ). k ≤ z * 2 ^ d) (mul-one z) (mul-le-mul_left z (pow_pos d)))) B.under
      go (inr h) = lt_of_le_of_lt (le_trans (le-add_right z (2 ^ 64)) h.3) A.under

  abbrev total : Float
  total = sum binary64 s (X * 2 ^ e) t n (2 ^ 2274)

  abbrev Answers : Bool → ℕ → ℕ → Type 0
  Answers k w r = (n : ℕ) → RoundsWideToOdd w n (2 ^ e) → Encodes binary64 r (round binary64 k n (2 ^ 2274))

  pub sum_of_alike : beq s t ≡ true → (w r : ℕ) → w ≡ X + z → Answers s w r → Encodes binary64 r total
  sum_of_alike k w r q f =
      subst (λ (v : Float). Encodes binary64 r v) (sym (sum_alike binary64 s (X * 2 ^ e) t n (2 ^ 2274) k))
      (f (X * 2 ^ e + n) (subst (λ (x : ℕ). RoundsWideToOdd x (X * 2 ^ e + n) (2 ^ e)) (sym q) (wide_to_odd_sum X z n (2 ^ e) (pow_pos e) A.even distant)))

  pub difference_reversed : beq s t ≡ false → X < z → (w r : ℕ) → w ≡ z - X → Answers t w r → Encodes binary64 r total
  difference_reversed k l w r q f =
      let h = wide_to_odd_reversed X z n (2 ^ e) (pow_pos e) A.even l distant in
      subst (λ (v : Float). Encodes binary64 r v) (sym (sum_less binary64 s (X * 2 ^ e) t n (2 ^ 2274) k h.0))
      (f (n - X * 2 ^ e) (subst (λ (x : ℕ). RoundsWideToOdd x (n - X * 2 ^ e) (2 ^ e)) (sym q) h.1))

  module _ (k : beq s t ≡ false) (l : z ≤ X) (w : ℕ) (q : w ≡ X - z) where
    h : (n ≤ X * 2 ^ e) × RoundsWideToOdd (X - z) (X * 2 ^ e - n) (2 ^ e)
    h = wide_to_odd_difference X z n (2 ^ e) (pow_pos e) A.even l distant

    held : RoundsWideToOdd w (X * 2 ^ e - n) (2 ^ e)
    held = subst (λ (x : ℕ). RoundsWideToOdd x (X * 2 ^ e - n) (2 ^ e)) (sym q) h.1

    pub difference_cancels : w ≡ 0 → Encodes binary64 0 total
    difference_cancels z0 =
        let g : X * 2 ^ e - n ≡ 0 = wide_to_odd_zero (X * 2 ^ e - n) (2 ^ e) (subst (λ (x : ℕ). RoundsWideToOdd x (X * 2 ^ e - n) (2 ^ e)) z0 held) in
        subst (λ (v : Float). Encodes binary64 0 v) (sym (sum_level binary64 s (X * 2 ^ e) t n (2 ^ 2274) k (level (X * 2 ^ e) n h.0 g)))
        (encodes_zero binary64 false (X * 2 ^ e - n) (2 ^ 2274) g (pow_pos 2274))
      where
        level : (a b : ℕ) → b ≤ a → a - b ≡ 0 → a ≡ b
        level a b p r = omega arith

    pub difference_leads : 0 < w → (r : ℕ) → Answers s w r → Encodes binary64 r total
    difference_leads p r f =
        subst (λ (v : Float). Encodes binary64 r v) (sym (sum_more binary64 s (X * 2 ^ e) t n (2 ^ 2274) k (more (X * 2 ^ e) n (wide_to_odd_positive w (X * 2 ^ e - n) (2 ^ e) (pow_pos e) p held))))
        (f (X * 2 ^ e - n) held)
      where
        more : (a b : ℕ) → 0 < a - b → b < a
        more a b p = omega arith
