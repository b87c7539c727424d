-- A CALL WITH A FINDER AND ONE WITHOUT, as a caller has them: document 02, paper 1.
-- Statements only; rests on the outcomes of both calls.
use Rattle.std.specs.Prelude.{◌≡◌, List, ◌++◌, ℕ, ◌<◌, length, get_or, replicate, Err}
use Rattle.check_sheet.specs.declared.SheetError.{SheetError}
use Rattle.check_sheet.specs.Check.{check_sheet}
use Rattle.check_sheet.specs.Valid.{Valid}
use Rattle.finder.specs.Finder.{finder_of}
use Rattle.plan_rules.specs.declared.SceneOptions.{SceneOptions}
use Rattle.plan_rules.specs.World.{Query}
use Rattle.plan_rules.specs.OnTape.{asked}
use Rattle.plan_rules.specs.Outcome.{Answer, number_of, outcome, refused, outcome_of}
use Rattle.planner.specs.WithFinder.{outcome_with}
use Rattle.planner.specs.LosesNothing.{AcceptedCall}

-- "Planning with the sheet's own finder and planning without one agree on every sheet and query", and on all lent memory, whatever follows the finder.
abbrev pub OwnFinderAgrees : Type 0
OwnFinderAgrees = (s more : List ℕ) (q : Query) (o k m : List ℕ) → outcome_with s (finder_of s ++ more) q o k m ≡ outcome_of s q o k m

-- "asked after 6": a sheet that its own check refuses is refused alike with any list.
abbrev pub RefusedSheetAgrees : Type 0
RefusedSheetAgrees = (s finder : List ℕ) (q : Query) (o k m : List ℕ) (e : SheetError) → check_sheet s ≡ Err e
    → outcome_with s finder q o k m ≡ outcome_of s q o k m

-- "A finder that doesn't belong to the sheet is turned away": one that differs in one of the sheet's places gets number 13, and all output and scratch zero,
abbrev pub DifferentFinderIsRefused : Type 0
DifferentFinderIsRefused = (s finder : List ℕ) (q : Query) (o k m : List ℕ) → Valid s
    → (i : ℕ) → i < length (finder_of s) → (get_or finder i 0 ≡ get_or (finder_of s) i 0 → ⊥)
    → outcome_with s finder q o k m ≡ refused 13 0 (replicate (length o) 0) (replicate (length k) 0) (replicate (length m) 0)

-- and so does one that is short.
abbrev pub ShortFinderIsRefused : Type 0
ShortFinderIsRefused = (s finder : List ℕ) (q : Query) (o k m : List ℕ) → Valid s → length finder < length (finder_of s)
    → outcome_with s finder q o k m ≡ refused 13 0 (replicate (length o) 0) (replicate (length k) 0) (replicate (length m) 0)

-- Whatever list is lent, a call with it that is accepted is an accepted call of `plan`: what is proved of that, demands 2 and 3 among it, holds of this.
abbrev pub AcceptedWithIsAccepted : Type 0
AcceptedWithIsAccepted = (sheet finder : List ℕ) (query : SceneOptions) (hidden out counts marks : List ℕ) (a : Answer) (out₁ counts₁ marks₁ : List ℕ)
    → outcome a out₁ counts₁ marks₁ ≡ outcome_with sheet finder (asked query hidden) out counts marks → number_of a ≡ 0
    → AcceptedCall sheet query hidden out counts marks a out₁ counts₁ marks₁
