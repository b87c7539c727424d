-- The significand of a pattern, shifted up until its top bit stands at bit 62.
-- Assumes nothing.
use Rattle.std.proofs.Common.{◌≡◌, ℕ, suc, ◌+◌, ◌-◌, ◌*◌, ◌%◌, ◌^◌, ◌<◌, ◌≤◌, sym, refl, ap, ◌∙◌, subst, inl, inr, le_trans, lt_of_le_of_lt, lt_irrefl, mod-eq_of_lt, mul_assoc, mul-le-mul_left, pow-suc, lt_of_not-le, zero-mul, arith, lit<, pow_mono, pow-add, shl_lt}
use native.Mathlib.Nat.{mul-mod_left}
use Rattle.rounding.specs.Fields.{significand_of, exponent_of, Normalised}
use Rattle.rounding.proofs.nearest.Normalising.{IsLeadingZeros}
use Rattle.rounding.proofs.decode.Reading.{exponent_lt, significand_lt}

pub normalised_zero : (n : ℕ) → significand_of n ≡ 0 → Normalised n 0 0
normalised_zero n z = record {
  value = sym (ap (λ (x : ℕ). x * 2 ^ exponent_of n * 2 ^ 63) z ∙ ap (λ (x : ℕ). x * 2 ^ 63) (zero-mul (2 ^ exponent_of n)) ∙ zero-mul (2 ^ 63));
  even = refl;
  under = lit< tt;
  least = inl refl;
  short = lit< tt;
}

-- a number of 53 digits has 11 zeros above it
pub eleven_leading_zeros : (d s : ℕ) → d < 2 ^ 53 → 2 ^ 63 ≤ d * 2 ^ s → 11 ≤ s
eleven_leading_zeros d s h g = lt_of_not-le (λ (l : s ≤ 10). lt_irrefl (2 ^ 63) (lt_of_le_of_lt (le_trans g (mul-le-mul_left d (pow_mono l))) (shl_lt 53 10 h)))

pub normalised_some : (n d s e : ℕ) → d ≡ significand_of n → e ≡ exponent_of n → IsLeadingZeros d s → Normalised n (d * 2 ^ (s - 1) % 2 ^ 64) (e + 64 - s)
normalised_some n d s e p q t =
    let l : 11 ≤ s = eleven_leading_zeros d s (subst (λ (x : ℕ). x < 2 ^ 53) (sym p) (significand_lt n)) t.1 in
    let m = d * 2 ^ (s - 1) in
    let two : d * 2 ^ s ≡ m * 2 = ap (λ (x : ℕ). d * 2 ^ x) (one_back s l) ∙ ap (λ (x : ℕ). d * x) (pow-suc 2 (s - 1)) ∙ sym (mul_assoc d (2 ^ (s - 1)) 2) in
    let b = bounds (d * 2 ^ s) m two t.1 t.2 in
    subst (λ (x : ℕ). Normalised n x (e + 64 - s)) (sym (mod-eq_of_lt b.2))
    (record {
      value = mul_assoc d (2 ^ (s - 1)) (2 ^ (e + 64 - s)) ∙ ap (λ (x : ℕ). d * x) (sym (pow-add 2 (s - 1) (e + 64 - s)) ∙ ap (λ (x : ℕ). 2 ^ x) (joined s e l t.0) ∙ pow-add 2 e 63) ∙ sym (mul_assoc d (2 ^ e) (2 ^ 63)) ∙ (λ i. p i * 2 ^ q i * 2 ^ 63);
      even = ap (λ (x : ℕ). x % 4) (ap (λ (x : ℕ). d * 2 ^ x) (two_back s l) ∙ ap (λ (x : ℕ). d * x) (pow-add 2 (s - 3) 2) ∙ sym (mul_assoc d (2 ^ (s - 3)) 4)) ∙ mul-mod_left (d * 2 ^ (s - 3)) 4;
      under = b.1;
      least = inr b.0;
      short = few e s (subst (λ (x : ℕ). x < 2 ^ 11) (sym q) (exponent_lt n)) l;
    })
  where
    one_back : (s : ℕ) → 11 ≤ s → s ≡ suc (s - 1)
    one_back s h = omega arith

    two_back : (s : ℕ) → 11 ≤ s → s - 1 ≡ s - 3 + 2
    two_back s h = omega arith

    bounds : (a m : ℕ) → a ≡ m * 2 → 2 ^ 63 ≤ a → a < 2 ^ 64 → (2 ^ 62 ≤ m) × (m < 2 ^ 63) × (m < 2 ^ 64)
    bounds a m e h k = omega arith

    joined : (s e : ℕ) → 11 ≤ s → s < 64 → s - 1 + (e + 64 - s) ≡ e + 63
    joined s e h k = omega arith

    few : (e s : ℕ) → e < 2 ^ 11 → 11 ≤ s → e + 64 - s < 2 ^ 12
    few e s h k = omega arith
