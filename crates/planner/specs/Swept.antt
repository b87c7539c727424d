-- The visits on scratch that is zeroed before and after: the tape cannot depend on what the scratch held, and nothing is left in it.
-- Definitions only; rests on the rules' `World` and `OnTape`.
use Rattle.std.specs.Prelude.{List, ℕ, replicate}
use Rattle.plan_rules.specs.declared.Fixed.{Fixed}
use Rattle.plan_rules.specs.Event.{empty_plan}
use Rattle.plan_rules.specs.World.{world}
use Rattle.plan_rules.specs.OnTape.{Given, Output, visit_root}

module _ {f : Fixed} (g : Given f) where
  -- what the visits leave, from an empty plan and that many zeroed counts and marks
  unfoldable pub visited : List ℕ → ℕ → ℕ → Output
  visited o counts marks = visit_root g f.options.depth (world empty_plan o (replicate counts 0) (replicate marks 0))

  unfoldable pub swept : List ℕ → ℕ → ℕ → Output
  swept o counts marks =
      let w = visited o counts marks in
      world w.state w.out (replicate counts 0) (replicate marks 0)
