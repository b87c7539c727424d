-- THE END OF A CALL: what `finish` answers after the visits, with the scratch zeroed, is the outcome that the rules define.
-- Assumes nothing.
use mathlib.Core.Path.{◌≡◌, sym, ap, ◌∙◌}
use mathlib.Core.Bool.{cond}
use mathlib.Core.List.{List, ◌++◌}
use Prim.Native.Nat.{ℕ, ◌≤◌, ◌<◌}
use lib.ListN.{length, replicate, take, drop}
use lib.Seq.{length-take-le}
use lib.Dec.{leb}
use Rattle.std.specs.Prelude.{Ok, Err}
use Rattle.plan_rules.specs.declared.refusal.PlanError.TheVariants.{NoRoom}
use Rattle.plan_rules.specs.declared.ScenePlan.{ScenePlan}
use Rattle.plan_rules.specs.declared.Fixed.{Fixed}
use Rattle.plan_rules.specs.Limits.{max_total}
use Rattle.plan_rules.specs.Event.{empty_plan, totals}
use Rattle.plan_rules.specs.World.{world}
use Rattle.plan_rules.specs.Scratch.{counts_named, marks_named}
use Rattle.plan_rules.specs.Push as push
use Rattle.plan_rules.specs.Plan.{plan}
use Rattle.plan_rules.specs.OnTape.{Given, Output, query, say, visit_root}
use Rattle.plan_rules.specs.Outcome.{Answer, outcome, fresh_plan, tape_of, zeroed, delivered}
use Rattle.plan_rules.proofs.OutcomeTheorem.{written, written_length, written_outcome, delivered_is_written}
use Rattle.planner.specs.Answered.{answered}
use Rattle.planner.specs.Swept.{visited, swept}

module _ {f : Fixed} (g : Given f) (o k m : List ℕ) where
  abbrev cells : ℕ
  cells = f.counts.cells

  abbrev nk : ℕ
  nk = counts_named cells f.options.depth

  abbrev nm : ℕ
  nm = marks_named cells f.options.depth

  -- the run that writes, and the scratch zeroed after it
  abbrev ended : Output
  ended = world (written g.sheet cells (query g) o k m).state (written g.sheet cells (query g) o k m).out (zeroed nk k) (zeroed nm m)

  answered_is_written : answered ended ≡ written_outcome g.sheet cells (query g) o k m
  unfolding answered written_outcome
  answered_is_written =
      ap (λ (n : ℕ). cond (leb ended.state.tape_end n)
      (outcome (Ok ended.state.tape_end) ended.out (zeroed nk k) (zeroed nm m))
      (outcome (Err (NoRoom ended.state.tape_end)) (replicate n 0) (zeroed nk k) (zeroed nm m))) (written_length g.sheet cells (query g) o k m)

  -- `visited`: what the visits left of the plan and the output. `finished`: the contract of `finish`.
  pub call_delivered : (length o < max_total) → (s : ScenePlan) (b k₁ m₁ : List ℕ)
      → (visited : world s b k₁ m₁ ≡ visit_root g f.options.depth (world empty_plan o (replicate nk 0) (replicate nm 0)))
      → (a : Answer) (b₁ : List ℕ) → (finished : (k m : List ℕ) → outcome a b₁ k m ≡ answered (say (totals s) (world s b k m)))
      → outcome a b₁ (zeroed nk k) (zeroed nm m) ≡ delivered (tape_of g.sheet cells (query g)) nk nm o k m
  unfolding fresh_plan plan push.say
  call_delivered small s b k₁ m₁ visited a b₁ finished =
      finished (zeroed nk k) (zeroed nm m)
      ∙ ap (λ (v : Output). answered (say (totals v.state) (world v.state v.out (zeroed nk k) (zeroed nm m)))) visited
      ∙ answered_is_written
      ∙ sym (delivered_is_written g.sheet cells (query g) o k m small)

  -- The same from the sweep over just the named places, `uk` counts and `um` marks: the places behind them stay as lent.
  module _ (uk um : ℕ) (counts-used : uk ≡ nk) (marks-used : um ≡ nm) (counts-lent : uk ≤ length k) (marks-lent : um ≤ length m) where
    abbrev left : Output
    left = visited g o nk nm

    pub sweep_delivered : (length o < max_total) → (s : ScenePlan) (b k₁ m₁ : List ℕ)
        → (ran : world s b k₁ m₁ ≡ swept g o (length (take uk k)) (length (take um m)))
        → (a : Answer) (b₁ : List ℕ) → (finished : (k m : List ℕ) → outcome a b₁ k m ≡ answered (say (totals s) (world s b k m)))
        → outcome a b₁ (k₁ ++ drop uk k) (m₁ ++ drop um m) ≡ delivered (tape_of g.sheet cells (query g)) nk nm o k m
    unfolding swept visited zeroed
    sweep_delivered small s b k₁ m₁ ran a b₁ finished =
        let marks-named = length-take-le um m marks-lent ∙ marks-used in
        let counts-named = length-take-le uk k counts-lent ∙ counts-used in
        let w : world s b k₁ m₁ ≡ swept g o nk nm = ran ∙ (λ i. swept g o (counts-named i) (marks-named i)) in
        (λ i. outcome a b₁ ((w i).counts ++ drop (counts-used i) k) ((w i).marks ++ drop (marks-used i) m))
        ∙ call_delivered small s b left.counts left.marks (λ i. world (w i).state (w i).out left.counts left.marks) a b₁ finished
