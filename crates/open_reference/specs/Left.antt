-- A reference that is there: its visit from here on, and what is left of it after `open_reference`, for any way to visit on.
-- Definitions only; rests on the rules at the code's end.
use Rattle.std.specs.Prelude.{◌≡◌, false, List, ℕ}
use Rattle.std.specs.declared.ops.ControlFlow.{ControlFlow}
use Rattle.std.specs.declared.ops.ControlFlow.TheVariants.{Continue, Break}
use Rattle.std.specs.ControlFlow.{MatchControlFlow}
use Rattle.std.specs.Borrow.{MutBor}
use Rattle.geometry.specs.declared.placement.Placement.{Placement}
use Rattle.geometry.specs.Bbox.{source_is_degenerate}
use Rattle.screen.specs.Screen.{FirstMet, reference_screen_size, collapse_test}
use Rattle.records.specs.declared.PreparedReference.{PreparedReference}
use Rattle.plan_rules.specs.declared.ScenePlan.{ScenePlan}
use Rattle.plan_rules.specs.declared.Fixed.{Fixed}
use Rattle.plan_rules.specs.DrawUnits.{reference_draw_units}
use Rattle.plan_rules.specs.World.{world}
use Rattle.plan_rules.specs.OnTape.{Given, Output, VisitSource, visit_counted_reference, visit_sourced_reference}
use Rattle.open_reference.specs.declared.OpenReference.{OpenReference}

module _ {f : Fixed} (g : Given f) where
  abbrev pub found_reference : VisitSource g → ℕ → PreparedReference → Placement → Output → Output
  found_reference on depth r p w = visit_sourced_reference g on depth r p r.source_bbox w

  -- its draw units, and what follows from them; or nothing
  abbrev pub left_of_reference : VisitSource g → ℕ → ScenePlan → ControlFlow ScenePlan OpenReference → List ℕ → List ℕ → List ℕ → Output
  left_of_reference on depth plan (Continue x) o k m =
      visit_counted_reference g on depth x.record.now x.transform x.source_bbox x.world_bbox (reference_draw_units g.sheet f.counts.cells depth x.record.now k m) (world plan o k m)
  left_of_reference on depth plan (Break s) o k m = world s o k m

-- What the step promises: whatever a plan is given and the way to visit on, what is left to do is the visit from the step on.
abbrev pub OpensReference : Fixed → PreparedReference → Placement → ControlFlow ScenePlan OpenReference → MutBor (List ℕ) → ScenePlan → MutBor (List ℕ) → Type 0
OpensReference f r p result out plan outBefore =
    (g : Given f) (on : VisitSource g) (depth : ℕ) (k m : List ℕ)
    → left_of_reference g on depth plan result out.now k m ≡ found_reference g on depth r p (world plan outBefore.now k m)

-- A reference that is visited is the one that is there, placed as it was.
abbrev pub Holds : PreparedReference → Placement → ControlFlow ScenePlan OpenReference → Type 0
Holds r p result = MatchControlFlow result (λ x. (x.record.now ≡ r) × (x.transform ≡ p)) (λ _. Unit {0})

-- the first test that a reference of so many members meets, by the size of its box on the screen
abbrev pub reference_test : Fixed → OpenReference → ℕ → ℕ → ℕ → FirstMet
reference_test f x members units depth =
    let size = reference_screen_size x.world_bbox f.options.zoom (source_is_degenerate x.source_bbox) in
    collapse_test size.width size.height members units depth false
