-- `fused::wide::shift_to_odd` meets its contract. Assumes nothing.
use Rattle.fused.proofs.wide.Shifts.{shift_none, shift_part, shift_all}
use Rattle.fused.proofs.wide.shift_to_odd.Goals as goal

pub returns-then-d-eq0 : goal.returns-then-d-eq0
returns-then-d-eq0 c = shift_none c.args.n c.args.d c.if-d-eq0.true

pub returns-then-d-lt128 : goal.returns-then-d-lt128
returns-then-d-lt128 c = shift_part c.args.n c.args.d c.if-d-lt128.true c.with_sticky.result c.with_sticky.ensures

pub returns-else-d-lt128 : goal.returns-else-d-lt128
returns-else-d-lt128 c =
    shift_all c.args.n c.args.d c.with_sticky-else-d-lt128.result c.ranges.n.fits c.if-d-lt128.false c.with_sticky-else-d-lt128.ensures
