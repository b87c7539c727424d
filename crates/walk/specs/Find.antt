-- What is found by its number: document 01's "Items count from 0 within their kind".
-- Definitions only. Assumes nothing.
use Rattle.std.specs.Prelude.{ℕ, List, [], ◌∷◌, cond, length, eqb, Option, Some, None}
use Rattle.std.proofs.Math.Option as maybe
use Rattle.std.proofs.Math.Option.{none, some}
use Rattle.std.proofs.Math.ListN.{get_elem?}
use Rattle.walk.specs.Offsets.{kind_at, offsets}

-- those of a list of records that are of a kind
unfoldable pub of_kind_in : List ℕ → ℕ → List ℕ → List ℕ
of_kind_in s kind [] = []
of_kind_in s kind (at ∷ xs) = cond (eqb (kind_at s at) kind) (at ∷ of_kind_in s kind xs) (of_kind_in s kind xs)

-- the records of a kind
abbrev pub of_kind : List ℕ → ℕ → List ℕ
of_kind s kind = of_kind_in s kind (offsets s)

-- how many of a list of records are of a kind, and how many of all
abbrev pub count_in : List ℕ → ℕ → List ℕ → ℕ
count_in s kind xs = length (of_kind_in s kind xs)

abbrev pub count_of : List ℕ → ℕ → ℕ
count_of s kind = count_in s kind (offsets s)

-- what a look-up finds: the offset of a record, or nothing
abbrev pub Found : Type 0
Found = Option ℕ

unfoldable pub answer : maybe.Option ℕ → Found
answer none = None
answer (some at) = Some at

-- the n-th of those of a list of records that are of a kind, counted from 0
unfoldable pub find_in : List ℕ → ℕ → ℕ → List ℕ → Found
find_in s kind n xs = answer (get_elem? (of_kind_in s kind xs) n)

-- the n-th record of a kind
abbrev pub find : List ℕ → ℕ → ℕ → Found
find s kind n = find_in s kind n (offsets s)
