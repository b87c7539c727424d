-- An f64 as the nearest f32, from what `leading_zeros` and `pack` ensure.
-- Assumes nothing.
use Rattle.std.proofs.Common.{◌≡◌, ℕ, ◌+◌, ◌*◌, ◌/◌, ◌%◌, ◌^◌, ◌<◌, Bool, cond, not, T, leb, sym, refl, ap, ◌∙◌, subst, inl, lt_of_le_of_lt, add-zero, mod-eq_of_lt, mul_assoc, mul_comm, zero-mul, mul_left_comm, lit<, pow_pos, pow-add}
use lib.Bits.{bit_or}
use lib.Ieee.{Float, nan, inf, fin, binary32, binary64, up, down, round, of_bits, nan_bits}
use lib.Ieee.Fits.{down_pos}
use lib.Ieee.Exact.{HasValue}
use lib.Ieee.Scale.{round_same}
use Rattle.rounding.specs.Narrow.{narrow}
use Rattle.rounding.specs.Fields.{exponent_field_of, significand_of, exponent_of}
use Rattle.rounding.specs.RoundToOdd.{RoundsToOdd}
use Rattle.rounding.specs.Packed.{packed, Encodes}
use Rattle.rounding.proofs.nearest.Normalising.{IsLeadingZeros}
use Rattle.rounding.proofs.nearest.Theorem.{encodes_infinity, encodes_rounded, encodes_zero, packed_le}
use Rattle.rounding.proofs.decode.Reading.{infinity, value}
use Rattle.rounding.proofs.decode.Signs.{sign_is, signed}

-- ---- the narrowed value, by any fraction that the operand equals
pub narrow_at : (v : Float) (s : Bool) (a c : ℕ) → 0 < c → HasValue v s a c → narrow v ≡ round binary32 s a c
unfolding narrow
narrow_at nan s a c C h = absurd h
narrow_at (inf t) s a c C h = absurd h
narrow_at (fin t m e) s a c C h = ap (λ (u : Bool). round binary32 u (m * up e) (down e)) h.0 ∙ round_same binary32 s (m * up e) (down e) a c (down_pos e) C h.1

pub narrow_inf : (s : Bool) → narrow (inf s) ≡ inf s
unfolding narrow
narrow_inf s = refl

-- ---- the significand shifted up is exact
pub significand_to_odd : (a s x l u w : ℕ) → w ≡ l + u → RoundsToOdd (a * 2 ^ s) (a * 2 ^ x * 2 ^ l * 2 ^ (s + u)) (2 ^ w * 2 ^ x)
significand_to_odd a s x l u w e = inl (ap (λ (y : ℕ). a * 2 ^ s * (2 ^ y * 2 ^ x)) e ∙ simp (pow-add, mul_assoc, mul_comm, mul_left_comm))

-- ---- a narrowed float
abbrev pub sign : ℕ → ℕ
sign n = n / 2 ^ 63 * 2 ^ 31 % 2 ^ 64

module _ (n : ℕ) (h : n < 2 ^ 64) where
  abbrev s : Bool
  s = leb (2 ^ 63) n

  pub narrow_infinite : exponent_field_of n ≡ 2047 → T (not (nan_bits binary64 n)) → Encodes binary32 (bit_or (sign n) 2139095040) (narrow (of_bits binary64 n))
  narrow_infinite e k =
      subst (λ (x : ℕ). Encodes binary32 x (narrow (of_bits binary64 n))) (sym (signed n 31 2139095040 h (lit< tt) (lit< tt)))
      (subst (λ (v : Float). Encodes binary32 (cond s (2 ^ 31) 0 + 2139095040) v) (sym (ap narrow (infinity n e k) ∙ narrow_inf s)) (encodes_infinity binary32 s))

  module _ (f : exponent_field_of n ≡ 2047 → ⊥) where
    narrow_is : narrow (of_bits binary64 n) ≡ round binary32 s (significand_of n * 2 ^ exponent_of n) (2 ^ 1074)
    narrow_is = narrow_at (of_bits binary64 n) s (significand_of n * 2 ^ exponent_of n) (2 ^ 1074) (pow_pos 1074) (value n f)

    pub narrow_zero : significand_of n ≡ 0 → Encodes binary32 (sign n) (narrow (of_bits binary64 n))
    narrow_zero z =
        subst (λ (x : ℕ). Encodes binary32 x (narrow (of_bits binary64 n))) (add-zero (cond s (2 ^ 31) 0) ∙ sym (sign_is n 31 h (lit< tt)))
        (subst (λ (v : Float). Encodes binary32 (cond s (2 ^ 31) 0 + 0) v) (sym narrow_is)
        (encodes_zero binary32 s (significand_of n * 2 ^ exponent_of n) (2 ^ 1074) (ap (λ (x : ℕ). x * 2 ^ exponent_of n) z ∙ zero-mul (2 ^ exponent_of n)) (pow_pos 1074)))

    encodes_exactly : (u r : ℕ) → IsLeadingZeros (significand_of n) u → r ≡ packed 24 255 (significand_of n * 2 ^ u % 2 ^ 64) (exponent_of n) (u + 925) → Encodes binary32 (bit_or (sign n) r) (narrow (of_bits binary64 n))
    encodes_exactly u r t e =
        let m = significand_of n * 2 ^ u in
        let y = packed 24 255 m (exponent_of n) (u + 925) in
        let q : y ≡ r = ap (λ (m : ℕ). packed 24 255 m (exponent_of n) (u + 925)) (sym (mod-eq_of_lt t.2)) ∙ sym e in
        let l : r < 2 ^ 31 = subst (λ (x : ℕ). x < 2 ^ 31) q (lt_of_le_of_lt (packed_le 24 255 m (exponent_of n) (u + 925)) (lit< tt)) in
        subst (λ (x : ℕ). Encodes binary32 x (narrow (of_bits binary64 n))) (ap (λ (x : ℕ). cond s (2 ^ 31) 0 + x) q ∙ sym (signed n 31 r h (lit< tt) l))
        (subst (λ (v : Float). Encodes binary32 (cond s (2 ^ 31) 0 + y) v) (sym narrow_is)
        (encodes_rounded binary32 s (significand_of n * 2 ^ exponent_of n) (2 ^ 1074) m (exponent_of n) (u + 925) (pow_pos 1074) t.1 t.2 (significand_to_odd (significand_of n) u (exponent_of n) 149 925 1074 refl)))

    pub narrow_encodes : (digits exponent u r : ℕ) → digits ≡ significand_of n → exponent ≡ exponent_of n → IsLeadingZeros digits u → r ≡ packed 24 255 (digits * 2 ^ u % 2 ^ 64) exponent (u + 925) → Encodes binary32 (bit_or (sign n) r) (narrow (of_bits binary64 n))
    narrow_encodes digits exponent u r D E t e = encodes_exactly u r (subst (λ (x : ℕ). IsLeadingZeros x u) D t) (e ∙ (λ i. packed 24 255 (D i * 2 ^ u % 2 ^ 64) (E i) (u + 925)))

pub narrow_nan : narrow nan ≡ nan
unfolding narrow
narrow_nan = refl
