-- DEMAND 3, the statement. The customer: "There is no text, node point or batch in view that a plan loses. For every square sheet with true boxes, and
-- whatever root, depth, whole-number view, hidden layers and zoom up to 2^64 a reader brings, an accepted plan lists no path twice, and every path to an item
-- in view on a shown layer is listed, or lies within the box of a proxy that is listed or was dropped because 100,000 were listed already, or lies in something
-- skipped as under one pixel both ways". The exception that followed, the later members of a node grid that met a limit, fell with document 02's paper 5.
-- Definitions only; proved in proofs/Demand3.antt. Assumes nothing.
use Rattle.std.specs.Prelude.{◌≡◌, false, List, ◌++◌, ℕ, ◌≤◌, T as Yes, pos, length, drop, replicate}
use Rattle.std.specs.Float.{fin}
use Rattle.std.specs.Float.Ieee.{le}
use Rattle.abstract_sheet.specs.Sheet.{Sheet, sheet_of}
use Rattle.exact.specs.Screen.{zoom_power, ZoomWithin}
use Rattle.check_sheet.specs.Count.{counts_of}
use Rattle.plan_rules.specs.Limits.{max_depth}
use Rattle.plan_rules.specs.Event.{Event}
use Rattle.plan_rules.specs.World.{Query}
use Rattle.plan_rules.specs.Scratch.{counts_named, marks_named}
use Rattle.plan_rules.specs.Tape.{tape}
use Rattle.plan_rules.specs.Outcome.{Outcome, outcome_of}
use Rattle.paths.specs.Square.{Square, FewMembers}
use Rattle.paths.specs.TrueBoxes.{TrueBoxes}
use Rattle.cover.specs.Path.{Path, Item, LeadsTo}
use Rattle.cover.specs.View.{WholeView, InView, Shown}
use Rattle.cover.specs.Trace.{Trace, events, All, IsRecord}
use Rattle.cover.specs.Covered.{NoPathTwice, DroppedWhenFull, DroppedAreCounted, Covered, ListsItsPath, IsSkip, Skipped}

-- ---- a plan that loses nothing, by its events

pub record LosesNothing (S : Sheet) (q : Query) (trace : Trace) : Type 0 where
  -- "every path to an item in view on a shown layer is listed, or lies within the box of a proxy .., or lies in something skipped .."
  pub covered : (p : Path) (h : Item) → LeadsTo S q.root p h → InView q.view h → Shown q.hidden h → Covered S q p h trace
  -- "every record of kinds 11 to 13 lists one path"
  pub listed : All (λ (x : Path × Event). IsRecord x.1 → ListsItsPath S q x.0 x.1) trace
  -- "lists no path twice"
  pub once : NoPathTwice trace
  -- "dropped because 100,000 were listed already"
  pub dropped : DroppedWhenFull trace
  -- document 02, paper 8: and they are those counted
  pub counted : DroppedAreCounted trace
  -- "skipped as under one pixel both ways"
  pub skipped : All (λ (x : Path × Event). IsSkip x.1 → Skipped S q x.0 x.1) trace

-- ---- of the rules

-- what a reader brings: any root, hidden layers and object limit, and
pub record Brought (q : Query) : Type 0 where
  pub view : WholeView q.view
  -- above 0, by question 9, and "up to 2^64"
  pub zoom : ZoomWithin q.zoom
  -- question 10. Document 02, paper 13: "Cover of items in view includes the new depths"
  pub depth : q.depth ≤ max_depth

-- whatever stands in the lent counts and marks
abbrev pub Demand3OfRules : Type 0
Demand3OfRules = (S : Sheet) → Square S → TrueBoxes S → FewMembers S → (q : Query) → Brought q → (cells : ℕ) (counts marks : List ℕ) → LosesNothing S q (events S cells q counts marks)

-- ---- of a call

-- The events of the rules for the sheet of these bytes, with as many cells as the sheet has, from zeroed scratch of the size that question 11 names.
abbrev pub events_of : List ℕ → Query → Trace
events_of sheet q =
    let cells = (counts_of sheet).cells in
    events (sheet_of sheet) cells q (replicate (counts_named cells q.depth) 0) (replicate (marks_named cells q.depth) 0)

-- The trace is that of the rules, and the output is its records, totals last, and then what was lent. The records alone would leave open what is not
-- written: they tell how many proxies were dropped, not which.
pub record IsTape (sheet : List ℕ) (q : Query) (o : Outcome) (trace : Trace) (lent : List ℕ) : Type 0 where
  pub ran : trace ≡ events_of sheet q
  pub tape_length : o.tape_length ≡ length (tape trace)
  pub out : o.out ≡ tape trace ++ drop (length (tape trace)) lent

-- "an accepted plan": the refusal's number is 0. Questions 4, 9 and 10 give what is asked of columns and rows, of zoom above 0 and of the depth.
abbrev pub Demand3 : Type 0
Demand3 = (sheet : List ℕ) (q : Query) (out counts marks : List ℕ) → Square (sheet_of sheet) → TrueBoxes (sheet_of sheet) → WholeView q.view → Yes (le q.zoom (fin false 1 (pos zoom_power)))
    → let o = outcome_of sheet q out counts marks in o.number ≡ 0 → (trace : Trace) × IsTape sheet q o trace out × LosesNothing (sheet_of sheet) q trace
