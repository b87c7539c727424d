-- What is proved of opening a sheet.
-- Statements only. Assumes nothing.
use Rattle.std.specs.Prelude.{◌≡◌, true, List, ℕ, ◌/◌, ◌≤◌, ◌<◌, length, replicate}
use Rattle.records.specs.Format.{text, end_of}
use Rattle.check_sheet.specs.Valid.{Valid}
use Rattle.finder.specs.Finder.{finder_of, belongs}
use Rattle.open_sheet.specs.Opening.{opening_of}

-- "(13: the finder is short": the whole list is zero, and the answer says how many places would be enough
abbrev pub ShortIsRefused : Type 0
ShortIsRefused = (s f : List ℕ) → Valid s → length f < length (finder_of s)
    → opening_of s f ≡ record { number = 13; offset = 0; places = length (finder_of s); finder = replicate (length f) 0 }

-- what opening with number 0 leaves belongs to the sheet, so that planning with it is not turned away
abbrev pub OpenedBelongs : Type 0
OpenedBelongs = (s f : List ℕ) → (opening_of s f).number ≡ 0 → belongs (opening_of s f).finder s ≡ true

-- a sheet that passes questions 1 to 7 opens with a place for each 26 bytes: no record is shorter than a text without value bytes
abbrev pub EnoughPlacesOpen : Type 0
EnoughPlacesOpen = (s f : List ℕ) → Valid s → length s / end_of text ≤ length f → (opening_of s f).number ≡ 0
