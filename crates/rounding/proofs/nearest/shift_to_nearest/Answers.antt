-- `rounding::nearest::shift_to_nearest` meets its contract. Assumes nothing.
use Rattle.std.proofs.Common.{ℕ, ◌+◌, ◌-◌, ◌/◌, ◌^◌, sym, ap, ◌∙◌, rules}
use lib.Bits.{bit_and, and_le_r}
use Rattle.rounding.proofs.nearest.HalfUnit.{nearest_far_below, quotient_is, nearest_under_half, nearest_over_half, nearest_at_half, quotient_room}
use Rattle.rounding.proofs.nearest.shift_to_nearest.Goals as goal

pub returns-then-d-gt64 : goal.returns-then-d-gt64
returns-then-d-gt64 c = sym (nearest_far_below c.args.m c.args.d c.ranges.m.fits c.if-d-gt64.true)

pub overflow_add-result : goal.overflow_add-result
overflow_add-result c =
    record { fits = quotient_room c.args.m c.args.d c.requires c.if-d-gt64.false c.ranges.m.fits 1 (search rules) }

pub overflow_add-result-else-rest-gt9223372036854775808 : goal.overflow_add-result-else-rest-gt9223372036854775808
overflow_add-result-else-rest-gt9223372036854775808 c =
    let q = c.args.m / 2 ^ (c.args.d - 1) / 2 in
    record { fits = quotient_room c.args.m c.args.d c.requires c.if-d-gt64.false c.ranges.m.fits (bit_and q 1) (and_le_r q 1) }

pub returns-then-rest-lt9223372036854775808 : goal.returns-then-rest-lt9223372036854775808
returns-then-rest-lt9223372036854775808 c =
    quotient_is c.args.m c.args.d c.requires c.if-d-gt64.false ∙ sym (nearest_under_half c.args.m c.args.d c.requires c.if-d-gt64.false c.if-rest-lt9223372036854775808.true)

pub returns-then-rest-gt9223372036854775808 : goal.returns-then-rest-gt9223372036854775808
returns-then-rest-gt9223372036854775808 c =
    let l = c.if-d-gt64.false in
    ap (λ (x : ℕ). x + 1) (quotient_is c.args.m c.args.d c.requires l) ∙ sym (nearest_over_half c.args.m c.args.d c.requires l c.if-rest-gt9223372036854775808.true)

pub returns-else-rest-gt9223372036854775808 : goal.returns-else-rest-gt9223372036854775808
returns-else-rest-gt9223372036854775808 c =
    let l = c.if-d-gt64.false in
    ap (λ (x : ℕ). x + bit_and x 1) (quotient_is c.args.m c.args.d c.requires l) ∙ sym (nearest_at_half c.args.m c.args.d c.requires l c.if-rest-lt9223372036854775808.false c.if-rest-gt9223372036854775808.false)
