-- Finders of small sheets, computed, and lists that belong to them or do not.
-- Assumes nothing.
use mathlib.Core.Path.{◌≡◌, refl}
use mathlib.Core.Bool.{true, false}
use mathlib.Core.List.{List, [], ◌∷◌}
use Prim.Native.Nat.{ℕ}
use Rattle.fields.specs.Field.{uint, record_bytes}
use Rattle.abstract_sheet.proofs.Opened.{opened}
use Rattle.abstract_sheet.proofs.Examples.{worked_text, worked_cell, worked_sheet, mixed_sheet}
use Rattle.check_record.specs.Tests.{both}
use Rattle.finder.specs.Finder.{finder_of, starts_with, belongs}

-- document 01's worked sheet: the text, then the cell
worked_finder : finder_of worked_sheet ≡ 0 ∷ 26 ∷ []
unfolding worked_sheet worked_text worked_cell opened finder_of
worked_finder = refl

-- a cell, a batch, a node and a reference, in this order
mixed_finder : finder_of mixed_sheet ≡ 76 ∷ 122 ∷ 164 ∷ 0 ∷ []
unfolding mixed_sheet opened finder_of
mixed_finder = refl

-- "An empty sheet" has an empty finder, so that every list belongs to it
empty_finder : finder_of [] ≡ []
unfolding opened finder_of
empty_finder = refl

-- bare heads: a cell, a text, a batch, a text, a reference, a node
unfoldable heads : List ℕ
heads =
    record_bytes
    (uint 4 6 ∷ uint 2 5 ∷ uint 4 6 ∷ uint 2 2 ∷ uint 4 6 ∷ uint 2 1 ∷ uint 4 6 ∷ uint 2 2 ∷ uint 4 6 ∷ uint 2 4 ∷ uint 4 6 ∷ uint 2 3 ∷ [])

-- "by kind and then by number"
heads_finder : finder_of heads ≡ 12 ∷ 6 ∷ 18 ∷ 30 ∷ 24 ∷ 0 ∷ []
unfolding heads opened finder_of
heads_finder = refl

-- a longer list belongs
longer_belongs : belongs (12 ∷ 6 ∷ 18 ∷ 30 ∷ 24 ∷ 0 ∷ 99 ∷ []) heads ≡ true
unfolding heads opened finder_of belongs starts_with both
longer_belongs = refl

-- one that is a place short does not, though the missing offset is 0
shorter_does_not : belongs (12 ∷ 6 ∷ 18 ∷ 30 ∷ 24 ∷ []) heads ≡ false
unfolding heads opened finder_of belongs starts_with both
shorter_does_not = refl

-- nor does one with the two texts exchanged
exchanged_does_not : belongs (12 ∷ 18 ∷ 6 ∷ 30 ∷ 24 ∷ 0 ∷ []) heads ≡ false
unfolding heads opened finder_of belongs starts_with both
exchanged_does_not = refl
