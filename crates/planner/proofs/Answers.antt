-- Question 12 by code path: the tape's end lies within the output, or past it.
-- Assumes nothing.
use mathlib.Core.Path.{◌≡◌}
use mathlib.Core.List.{List}
use Prim.Native.Nat.{ℕ, ◌≤◌, ◌<◌}
use lib.ListN.{length, replicate}
use borrow.Author.Tests.{le-leb, lt-leb}
use Rattle.std.specs.Prelude.{Ok, Err}
use Rattle.plan_rules.specs.declared.refusal.PlanError.TheVariants.{NoRoom}
use Rattle.plan_rules.specs.World.{World}
use Rattle.plan_rules.specs.Outcome.{outcome}
use Rattle.planner.specs.Answered.{answered}

module _ (w : World (List ℕ)) where
  pub tape_fits : w.state.tape_end ≤ length w.out → outcome (Ok w.state.tape_end) w.out w.counts w.marks ≡ answered w
  unfolding answered
  tape_fits h = rw (le-leb _ _ h)

  pub tape_exceeds : length w.out < w.state.tape_end → {o : List ℕ} → o ≡ replicate (length w.out) 0 → outcome (Err (NoRoom w.state.tape_end)) o w.counts w.marks ≡ answered w
  unfolding answered
  tape_exceeds h {o} e = rw (lt-leb _ _ h, e)
