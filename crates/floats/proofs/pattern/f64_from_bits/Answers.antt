-- `floats::pattern::f64_from_bits` meets its contract: the test is that of a NaN's pattern. Assumes nothing.
use mathlib.Core.Path.{◌≡◌, sym, ◌∙◌, subst}
use mathlib.Core.Bool.{Bool, true, not}
use Prim.Native.Nat.{ℕ, ◌<◌, ◌≤◌, ◌%◌, ◌^◌}
use lib.Arith.{le→nltb}
use lib.Bits.{and_mask}
use lib.Dec.{T, lt→ltb}
use lib.Ieee.{binary64, nan_bits, of_bits}
use lib.Ieee.Bits.{is_true, nan_bits_is, nan_bits_above}
use Rattle.floats.proofs.Nans.{nan_of_test, nan_64}
use Rattle.floats.proofs.pattern.f64_from_bits.Goals as goal

number : (n : ℕ) → n % 2 ^ 63 ≤ 0x7ff0_0000_0000_0000 → T (not (nan_bits binary64 n))
number n h = subst (λ (b : Bool). T (not b)) (sym (nan_bits_above binary64 n)) (le→nltb 0x7ff0_0000_0000_0000 (n % 2 ^ 63) h)

not_number : (n : ℕ) → 0x7ff0_0000_0000_0000 < n % 2 ^ 63 → nan_bits binary64 n ≡ true
not_number n h = nan_bits_above binary64 n ∙ is_true _ (lt→ltb 0x7ff0_0000_0000_0000 (n % 2 ^ 63) h)

pub float_from_bits-result : goal.float_from_bits-result
float_from_bits-result c =
    let n = c.args.n in
    number n (subst (λ (x : ℕ). x ≤ 0x7ff0_0000_0000_0000) (and_mask n 63) c.if-n-le9218868437227405312.true)

pub returns-else-n-le9218868437227405312 : goal.returns-else-n-le9218868437227405312
returns-else-n-le9218868437227405312 c =
    let n = c.args.n in
    nan_64
    ∙ sym (nan_of_test (of_bits binary64 n) (sym (nan_bits_is binary64 n) ∙ not_number n (subst (λ (x : ℕ). 0x7ff0_0000_0000_0000 < x) (and_mask n 63) c.if-n-le9218868437227405312.false)))
