-- What is proved of the rules, as types: the theorems that a reader should see. Proofs: TapeTheorem, Memory.Plan.
-- Definitions only; rests on `Outcome` and `MappedPlan`.
use Rattle.std.specs.Prelude.{◌≡◌, List, [], ◌++◌, ℕ, ◌≤◌, ◌<◌, length, drop}
use Rattle.walk.specs.Find.{count_of}
use Rattle.abstract_sheet.specs.Sheet.{Sheet, sheet_of}
use Rattle.plan_rules.specs.Limits.{max_total}
use Rattle.plan_rules.specs.Event.{empty_plan}
use Rattle.plan_rules.specs.World.{Query, world}
use Rattle.plan_rules.specs.Plan.{plan}
use Rattle.plan_rules.specs.Tape.{no_tag, on_tape, note, tape}
use Rattle.plan_rules.specs.Outcome.{tape_of}
use Rattle.plan_rules.specs.MappedPlan.{mapped_plan}

-- A plan that writes leaves the records of the events that a plan notes, and behind them the output as lent, where the records fit.
abbrev pub WritesItsTape : Type 0
WritesItsTape = (S : Sheet) (cells : ℕ) (q : Query) (o k m : List ℕ)
    → let records = tape (plan no_tag note S cells q tt (world empty_plan [] k m)).out in
    let run = plan no_tag on_tape S cells q tt (world empty_plan o k m) in
    length o < max_total → length records ≤ length o → (run.state.tape_end ≡ length records) × (run.out ≡ records ++ drop (length records) o)

-- The tape of a sheet's bytes, planned over the lent scratch, is that of a plan over the Rust's maps.
abbrev pub TapeOverMaps : Type 0
TapeOverMaps = (s : List ℕ) (q : Query) → tape_of (sheet_of s) (count_of s 5) q ≡ tape (mapped_plan no_tag note (sheet_of s) q tt []).out.0
