-- What is proved of finders, each with the sentence of document 02, paper 1, that it is for.
-- Statements only. Assumes nothing.
use Rattle.std.specs.Prelude.{◌≡◌, true, false, List, [], ◌++◌, ℕ, ◌+◌, ◌*◌, ◌≤◌, ◌<◌, length, get_or, drop}
use Rattle.walk.specs.Offsets.{offsets}
use Rattle.walk.specs.Find.{find}
use Rattle.std.specs.Prelude.{Some}
use Rattle.records.specs.Format.{text, end_of}
use Rattle.abstract_sheet.specs.Sheet.{sheet_of, Kind, cells, kind_number}
use Rattle.check_sheet.specs.declared.Counts.{Counts}
use Rattle.check_sheet.specs.Count.{counts_of}
use Rattle.check_sheet.specs.Valid.{Valid}
use Rattle.look_up.specs.Places.{count_for, start_for}
use Rattle.look_up.specs.Look.{sheet_with}
use Rattle.finder.specs.Finder.{finder_of, belongs}

-- ---- "Planning with the sheet's own finder and planning without one agree on every sheet and query."

-- the sheet that the look-up in its own finder gives is the sheet
abbrev pub OwnFinderGivesTheSheet : Type 0
OwnFinderGivesTheSheet = (s f : List ℕ) → belongs f s ≡ true → sheet_with s f (counts_of s) ≡ sheet_of s

-- so is the one without a finder, whatever the counts
abbrev pub NoFinderGivesTheSheet : Type 0
NoFinderGivesTheSheet = (s : List ℕ) (c : Counts) → sheet_with s [] c ≡ sheet_of s

-- ---- "A finder that doesn't belong to the sheet is turned away, not trusted."

-- a list belongs just where the sheet's finder stands at its front
abbrev pub BelongingStartsWithTheFinder : Type 0
BelongingStartsWithTheFinder = (s f : List ℕ) → belongs f s ≡ true → f ≡ finder_of s ++ drop (length (finder_of s)) f

abbrev pub StartingWithTheFinderBelongs : Type 0
StartingWithTheFinderBelongs = (s f : List ℕ) → f ≡ finder_of s ++ drop (length (finder_of s)) f → belongs f s ≡ true

-- "(13: the finder is short or, when planning, differs from the sheet's"
abbrev pub ShortIsTurnedAway : Type 0
ShortIsTurnedAway = (s f : List ℕ) → length f < length (finder_of s) → belongs f s ≡ false

abbrev pub DifferentIsTurnedAway : Type 0
DifferentIsTurnedAway = (s f : List ℕ) (i : ℕ) → i < length (finder_of s) → (get_or f i 0 ≡ get_or (finder_of s) i 0 → ⊥) → belongs f s ≡ false

-- ---- "the offset of every record, by kind and then by number"

-- a record's place in the finder
pub record HasPlace (s : List ℕ) (kind n at : ℕ) : Type 0 where
  pub within : start_for (counts_of s) kind + n < length (finder_of s)
  pub holds : get_or (finder_of s) (start_for (counts_of s) kind + n) 0 ≡ at

-- each record that is found by its number has its place
abbrev pub EveryRecordHasItsPlace : Type 0
EveryRecordHasItsPlace = (s : List ℕ) (kind : Kind) (n at : ℕ) → find s (kind_number kind) n ≡ Some at → HasPlace s (kind_number kind) n at

-- as many places as the counts say: behind the start of the cells, the cells
abbrev pub PlacesAreTheCounts : Type 0
PlacesAreTheCounts = (s : List ℕ) → length (finder_of s) ≡ start_for (counts_of s) (kind_number cells) + count_for (counts_of s) (kind_number cells)

-- as many places as records
abbrev pub AsManyPlacesAsRecords : Type 0
AsManyPlacesAsRecords = (s : List ℕ) → Valid s → length (finder_of s) ≡ length (offsets s)

-- "Past that check no look-up by number walks the records": only an empty list walks, and only a sheet without records has an empty finder
abbrev pub OnlyAnEmptySheetHasAnEmptyFinder : Type 0
OnlyAnEmptySheetHasAnEmptyFinder = (s : List ℕ) → Valid s → length (finder_of s) ≡ 0 → length s ≡ 0

-- a sheet's bytes say how many places are always enough: no record is shorter than a text without value bytes
abbrev pub PlacesByTheBytes : Type 0
PlacesByTheBytes = (s : List ℕ) → Valid s → end_of text * length (finder_of s) ≤ length s
