-- `planner::root::visit_root` meets its contract: the proxy at depth 0, or the visit of the root where it stands.
-- Assumes nothing.
use mathlib.Core.Path.{◌≡◌, sym, ap, ◌∙◌}
use Prim.Native.Nat.{ℕ}
use native.Mathlib.Omega.{arith}
use lib.Ieee.{of_bits, of_fields, odd}
use Rattle.geometry.specs.Placement.{IDENTITY}
use Rattle.plan_rules.specs.World.{world}
use Rattle.plan_rules.specs.OnTape.{given_of, visit_root}
use Rattle.plan_rules.proofs.Paths.Plans.{root_visited}
use Rattle.planner.proofs.root.visit_root.Goals as goal

pub returns-then-query-eq0-clause-visits : goal.returns-then-query-eq0-clause-visits
returns-then-query-eq0-clause-visits c =
    let a = c.args in
    let w = world a.plan a.out.now a.scratch.now.counts.now a.scratch.now.marks.now in
    let nought : a.given.now.fixed.options.depth ≡ 0 = omega (arith, c.if-query-eq0.true) in
    c.load_root.ensures a.scratch.now.counts.now a.scratch.now.marks.now
    ∙ sym (ap (λ (d : ℕ). visit_root (given_of a.given.now) d w) nought)

pub returns-clause-visits : goal.returns-clause-visits
unfolding IDENTITY of_bits of_fields odd
returns-clause-visits c =
    let a = c.args in
    c.visit_cell.ensures.visits ∙ sym (root_visited (given_of a.given.now) _ _ (omega (arith, c.if-query-eq0.false)))
