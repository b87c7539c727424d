-- THE FINDER OF A SHEET: document 02, paper 1, "A lent list of 32-bit places shall hold the offset of every record, by kind and then by number".
-- Definitions only. Assumes nothing.
use Rattle.std.specs.Prelude.{Bool, true, false, List, [], ◌∷◌, ◌++◌, ℕ, eqb}
use Rattle.walk.specs.Find.{of_kind}
use Rattle.check_record.specs.Tests.{both}
use Rattle.check_sheet.specs.declared.Counts.{Counts}
use Rattle.look_up.specs.Places.{start_for}

-- "the offset of every record, by kind and then by number"
unfoldable pub finder_of : List ℕ → List ℕ
finder_of s = of_kind s 1 ++ (of_kind s 2 ++ (of_kind s 3 ++ (of_kind s 4 ++ of_kind s 5)))

-- the first places of a list are the numbers of another
unfoldable pub starts_with : List ℕ → List ℕ → Bool
starts_with f [] = true
starts_with [] (x ∷ xs) = false
starts_with (y ∷ ys) (x ∷ xs) = both (eqb y x) (starts_with ys xs)

-- "A finder that doesn't belong to the sheet is turned away": the first places of the list are the sheet's finder, neither short nor different.
unfoldable pub belongs : List ℕ → List ℕ → Bool
belongs f s = starts_with f (finder_of s)

-- the place of the first record of each kind, where the kind's number says; no record has kind 0
abbrev pub starts_of : Counts → List ℕ
starts_of c = 0 ∷ start_for c 1 ∷ start_for c 2 ∷ start_for c 3 ∷ start_for c 4 ∷ start_for c 5 ∷ []
