-- `fused::wide::with_sticky` meets its contract. Assumes nothing.
use mathlib.Core.Path.{sym, ◌∙◌}
use Rattle.fused.proofs.RoundToOdd.{sticky_none, sticky_some, or_one}
use Rattle.fused.proofs.wide.with_sticky.Goals as goal

pub returns-then-rest-eq0 : goal.returns-then-rest-eq0
returns-then-rest-eq0 c = sym (sticky_none c.args.n c.args.rest c.if-rest-eq0.true)

pub returns-else-rest-eq0 : goal.returns-else-rest-eq0
returns-else-rest-eq0 c = or_one c.args.n ∙ sym (sticky_some c.args.n c.args.rest c.if-rest-eq0.false)
