-- The two terms of the fused sum, the product and the addend, as numbers of 128 bits.
-- Assumes nothing.
use mathlib.Core.Path.{◌≡◌, refl, sym, ap, ◌∙◌, subst}
use mathlib.Core.Logic.{◌⊎◌, inl, inr}
use Prim.Native.Nat.{ℕ, ◌+◌, ◌*◌, ◌/◌, ◌%◌, ◌^◌, ◌≤◌, ◌<◌}
use native.Mathlib.Nat.{le_trans, le_of_lt, lt_of_le_of_lt, lt_of_lt_of_le, lt_irrefl, mod-eq_of_lt, zero-mul, mul_assoc, mul_comm, mul_left_comm, mul-mod_left, mul-le-mul, mul-le-mul_right, mul-lt-mul_of_pos_right}
use native.Mathlib.Omega.{arith}
use lib.Dec.{lit<, lit≤}
use lib.Pow.{pow_pos, pow-add}
use Rattle.rounding.specs.Fields.{Normalised}
use Rattle.rounding.proofs.decode.Reading.{units_of}
use Rattle.fused.specs.Wide.{Operand}

pub operand_zero : (w : ℕ) → w ≡ 0 → Operand w 0
operand_zero w z = subst (λ (x : ℕ). Operand x 0) (sym z) (record { even = refl; under = lit< tt; least = λ h. absurd (lt_irrefl 0 h); short = lit< tt })

-- a zero is the same at every exponent
pub zero_scaled : (w e : ℕ) → w ≡ 0 → w * 2 ^ 0 ≡ w * 2 ^ e
zero_scaled w e z = ap (λ (k : ℕ). k * 2 ^ 0) z ∙ sym (ap (λ (k : ℕ). k * 2 ^ e) z ∙ zero-mul (2 ^ e))

pub some : (w : ℕ) → (w ≡ 0 → ⊥) → 0 < w
some w h = omega arith

-- ---- the product
module _ {x y um ue vm ve w : ℕ} (U : Normalised x um ue) (W : Normalised y vm ve) (q : w ≡ um * vm) where
  pub product_value : w * 2 ^ (ue + ve) ≡ units_of x * units_of y * 2 ^ 126
  product_value =
      (λ i. q i * pow-add 2 ue ve i)
      ∙ turn um vm (2 ^ ue) (2 ^ ve)
      ∙ (λ i. U.value i * W.value i)
      ∙ turn (units_of x) (2 ^ 63) (units_of y) (2 ^ 63) ∙ ap (λ (z : ℕ). units_of x * units_of y * z) refl
    where
      turn : (a b c d : ℕ) → a * b * (c * d) ≡ a * c * (b * d)
      turn a b c d = simp (mul_assoc, mul_left_comm)

  pub product_operand : 0 < w → Operand w (ue + ve)
  product_operand p = record {
    even = ap (λ (k : ℕ). k % 16) (q ∙ (λ i. fours um U.even i * fours vm W.even i) ∙ pull (um / 4) (vm / 4)) ∙ mul-mod_left (um / 4 * (vm / 4)) 16;
    under = subst (λ (k : ℕ). k < 2 ^ 127) (sym q) (lt_of_le_of_lt (mul-le-mul (le_of_lt U.under) (le_of_lt W.under)) (lit< tt));
    least = λ h. subst (λ (k : ℕ). 2 ^ 124 ≤ k) (sym q) (mul-le-mul (some um U.least (λ z. ap (λ (k : ℕ). k * vm) z ∙ zero-mul vm)) (some vm W.least (λ z. ap (λ (k : ℕ). um * k) z ∙ mul_comm um 0 ∙ zero-mul um)));
    short = few ue ve U.short W.short;
  }
    where
      fours : (m : ℕ) → m % 4 ≡ 0 → m ≡ m / 4 * 4
      fours m e = omega arith

      pull : (a b : ℕ) → a * 4 * (b * 4) ≡ a * b * 16
      pull a b = turn a 4 b 4
        where
          turn : (a b c d : ℕ) → a * b * (c * d) ≡ a * c * (b * d)
          turn a b c d = simp (mul_assoc, mul_left_comm)

      few : (a b : ℕ) → a < 2 ^ 12 → b < 2 ^ 12 → a + b < 2 ^ 31
      few a b h k = omega arith

      some : (m : ℕ) → (m ≡ 0) ⊎ (2 ^ 62 ≤ m) → (m ≡ 0 → um * vm ≡ 0) → 2 ^ 62 ≤ m
      some m (inl z) f = absurd (lt_irrefl 0 (subst (λ (k : ℕ). 0 < k) (q ∙ f z) p))
      some m (inr h) f = h

-- ---- the addend
module _ {z m e : ℕ} (W : Normalised z m e) where
  addend_value : m * 2 ^ e * 2 ^ 1137 ≡ units_of z * 2 ^ 1200
  addend_value = ap (λ (k : ℕ). k * 2 ^ 1137) W.value ∙ mul_assoc (units_of z) (2 ^ 63) (2 ^ 1137)

  -- the significand shifted up by a word
  abbrev pub up : ℕ
  up = m * 2 ^ 64 % 2 ^ 128

  up_is : up ≡ m * 2 ^ 64
  up_is = mod-eq_of_lt (lt_of_lt_of_le (mul-lt-mul_of_pos_right W.under (pow_pos 64)) (lit≤ tt))

  pub addend_is : up * 2 ^ (e + 1073) ≡ units_of z * 2 ^ 1200
  addend_is =
      (λ i. up_is i * pow-add 2 e 1073 i)
      ∙ turn m (2 ^ 64) (2 ^ e) (2 ^ 1073)
      ∙ addend_value
    where
      turn : (a b c d : ℕ) → a * b * (c * d) ≡ a * c * (b * d)
      turn a b c d = simp (mul_assoc, mul_left_comm)

  pub addend_operand : 0 < up → Operand up (e + 1073)
  addend_operand n = subst (λ (k : ℕ). Operand k (e + 1073)) (sym up_is) (record {
    even = sixteen m;
    under = mul-lt-mul_of_pos_right W.under (pow_pos 64);
    least = λ h. le_trans (lit≤ tt) (mul-le-mul_right (2 ^ 64) (least W.least));
    short = few e W.short;
  })
    where
      sixteen : (m : ℕ) → m * 2 ^ 64 % 16 ≡ 0
      sixteen m = omega arith

      few : (e : ℕ) → e < 2 ^ 12 → e + 1073 < 2 ^ 31
      few e h = omega arith

      least : (m ≡ 0) ⊎ (2 ^ 62 ≤ m) → 2 ^ 62 ≤ m
      least (inl z) = absurd (lt_irrefl 0 (subst (λ (k : ℕ). 0 < k) (up_is ∙ ap (λ (k : ℕ). k * 2 ^ 64) z ∙ zero-mul (2 ^ 64)) n))
      least (inr h) = h
