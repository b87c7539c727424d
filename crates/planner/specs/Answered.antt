-- What a call answers for a plan whose records are written, totals last: question 12, "Does the whole tape fit the lent output?"
-- Definitions only; rests on the rules' `World` and `Outcome`.
use Rattle.std.specs.Prelude.{cond, List, ℕ, length, replicate, leb, Ok, Err}
use Rattle.plan_rules.specs.declared.refusal.PlanError.TheVariants.{NoRoom}
use Rattle.plan_rules.specs.World.{World}
use Rattle.plan_rules.specs.Outcome.{Outcome, outcome}

-- The tape's end decides. "Number 12 zeroes the whole output"; an accepted plan leaves it as written. The scratch is as the plan left it.
unfoldable pub answered : World (List ℕ) → Outcome
answered w =
    cond (leb w.state.tape_end (length w.out))
    (outcome (Ok w.state.tape_end) w.out w.counts w.marks)
    (outcome (Err (NoRoom w.state.tape_end)) (replicate (length w.out) 0) w.counts w.marks)
