-- The test is that of a NaN's pattern. Assumes nothing.
use mathlib.Core.Path.{◌≡◌, sym, ap, ◌∙◌, subst}
use mathlib.Core.Bool.{Bool, true, not}
use Prim.Native.Nat.{ℕ, ◌<◌, ◌≤◌, ◌-◌, ◌%◌, ◌^◌}
use lib.Arith.{le→nltb}
use lib.Bits.{bit_and, and_mask}
use lib.Dec.{T, lt→ltb}
use lib.Ieee.{binary32, nan_bits, of_bits}
use lib.Ieee.Bits.{is_true, nan_bits_is, nan_bits_above}
use Rattle.floats.proofs.Nans.{nan_of_test, zero_by_zero}
use Rattle.floats_vectors.proofs.single.f32_from_bits.Goals as goal

number : (n : ℕ) → bit_and n (2 ^ 31 - 1) ≤ 0x7f80_0000 → T (not (nan_bits binary32 n))
number n h = subst (λ (b : Bool). T (not b)) (sym (nan_bits_above binary32 n)) (le→nltb 0x7f80_0000 (n % 2 ^ 31) (subst (λ (x : ℕ). x ≤ 0x7f80_0000) (and_mask n 31) h))

not_number : (n : ℕ) → 0x7f80_0000 < bit_and n (2 ^ 31 - 1) → nan_bits binary32 n ≡ true
not_number n h = nan_bits_above binary32 n ∙ is_true _ (lt→ltb 0x7f80_0000 (n % 2 ^ 31) (subst (λ (x : ℕ). 0x7f80_0000 < x) (and_mask n 31) h))

pub float_from_bits-result : goal.float_from_bits-result
float_from_bits-result c = number (bit_and c.args.n (2 ^ 32 - 1)) c.if-bits-le2139095040.true

pub returns-else-bits-le2139095040 : goal.returns-else-bits-le2139095040
returns-else-bits-le2139095040 c =
    let n = c.args.n in
    let bits = bit_and n (2 ^ 32 - 1) in
    zero_by_zero binary32 ∙ sym (nan_of_test (of_bits binary32 bits) (sym (nan_bits_is binary32 bits) ∙ not_number bits c.if-bits-le2139095040.false)) ∙ ap (of_bits binary32) (and_mask n 32)
