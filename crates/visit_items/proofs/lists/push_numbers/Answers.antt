-- `visit_items::push_numbers` meets its contract: what is left to do from a number on is the whole.
-- Assumes nothing.
use mathlib.Core.Path.{◌≡◌, refl, sym, ap, ◌∙◌}
use mathlib.Core.List.{List}
use Prim.Native.Nat.{ℕ}
use Rattle.std.proofs.Common.{rules}
use Rattle.std.proofs.lemmas.Result.{err_from_is_err_and}
use Rattle.plan_rules.specs.declared.ScenePlan.{ScenePlan}
use Rattle.plan_rules.specs.World.{world, go}
use Rattle.plan_rules.specs.OnTape.{given_of}
use Rattle.plan_rules.proofs.Paths.Loops.{each_start, each_go, each_halt, each_done}
use Rattle.visit_items.specs.Lists.{push_at}
use Rattle.visit_items.proofs.NumberLoop
use Rattle.visit_items.proofs.lists.push_numbers.Goals.{After-push, then-i-eq0, else-i-eq0+else-detail_budget_exhausted}
use Rattle.visit_items.proofs.lists.push_numbers.Goals as goal

-- the number that the code pushes is the one that is due at this place
due : (g : _) (c : After-push g) (k m : List ℕ) → let w = world c.loop-i.plan c.loop-i.out k m in
    push_at (given_of c.args.given.now) (g.I.Items.push c.args.given.now c.args.transform) (g.I.Items.numbers c.args.given.now.sheet.now c.args.at) c.args.first c.loop-i.i w
    ≡ g.I.Items.push c.args.given.now c.args.transform c.if-i-eq0.number w
due g c k m =
    let push_it = λ (n : ℕ). g.I.Items.push c.args.given.now c.args.transform n (world c.loop-i.plan c.loop-i.out k m) in
    elim c.if-i-eq0.branch [
      | then-i-eq0 v ↦ NumberLoop.at_first _ _ _ _ _ _ v.if-i-eq0.true ∙ ap push_it (sym v.number-is)
      | else-i-eq0+else-detail_budget_exhausted v ↦
          NumberLoop.with_room _ _ _ _ _ _ v.if-i-eq0.false (cc (v.detail_budget_exhausted.ensures c.args.given.now.hidden.now))
          ∙ ap push_it (sym (v.number-is ∙ v.number.ensures))
    ]

pub loop-i-init : goal.loop-i-init
loop-i-init g c = (refl, λ k m. each_start _ _ _)

pub returns-then-detail_budget_exhausted : goal.returns-then-detail_budget_exhausted
returns-then-detail_budget_exhausted g c k m =
    let full = sym (c.detail_budget_exhausted.ensures c.args.given.now.hidden.now) ∙ c.if-detail_budget_exhausted.true in
    sym (each_halt _ _ c.loop-i.i _ _ c.loop-i-test.true (NumberLoop.at_limit _ _ _ _ _ _ c.if-i-eq0.false full)) ∙ c.loop-i.invariant.1 k m

pub returns-in_err-push : goal.returns-in_err-push
returns-in_err-push g c k m =
    let p = err_from_is_err_and c.from_residual.result c.from_residual.ensures.1 in
    let halts = due g (goal.at.returns-in_err-push g c).After-push k m ∙ sym (c.in_err-push.ensures k m) in
    rw (p.1, p.2) (sym (each_halt _ _ c.loop-i.i _ _ c.loop-i-test.true halts) ∙ c.loop-i.invariant.1 k m)

pub returns : goal.returns
returns g c k m = sym (each_done _ _ c.loop-i.i _ c.loop-i-test.false) ∙ c.loop-i.invariant.1 k m

pub loop-i-preserved : goal.loop-i-preserved
loop-i-preserved g c = (
  search (rules, c.loop-i.invariant.0, c.push.auto.out),
  λ k m. let goes = due g (goal.at.loop-i-preserved g c).After-push k m ∙ sym (c.in_ok-push.ensures k m) ∙ ap (λ (p : ScenePlan). go (world p c.push.new.out k m)) (sym c.one_by_one-plan.ensures) in
      sym (each_go _ _ c.loop-i.i _ _ c.loop-i-test.true goes) ∙ c.loop-i.invariant.1 k m,
)
