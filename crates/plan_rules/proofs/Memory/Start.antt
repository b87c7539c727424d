-- A plan starts with places and maps in agreement: the named places are zeroed, and the cells of a sheet of bytes are numbered below their count.
-- Assumes nothing.
use mathlib.Core.Path.{◌≡◌, refl, subst}
use mathlib.Core.Bool.{Bool, true, false}
use mathlib.Core.List.{List}
use mathlib.Core.Option.{none}
use Prim.Native.Nat.{ℕ, ◌+◌, ◌*◌, ◌≤◌}
use native.Mathlib.Nat.{mul_comm}
use native.Mathlib.Omega.{arith}
use lib.ListN.{replicate}
use lib.Dec.{ltb}
use borrow.Author.Tests.{ltb-true, ltb-false}
use Rattle.walk.specs.Find.{count_of}
use Rattle.abstract_sheet.specs.Sheet.{sheet_of, cells}
use Rattle.abstract_sheet.proofs.Lookup.{item_some, item_below}
use Rattle.plan_rules.specs.Scratch.{counts_named, marks_named}
use Rattle.plan_rules.specs.Maps.{empty_maps}
use Rattle.plan_rules.proofs.Memory.Faithful.{Agree, zeroed_agree, CellsBelow}

-- the scratch of `fresh_plan`
pub fresh_agree : (n depth : ℕ) → Agree n depth (replicate (counts_named n depth) 0) (replicate (marks_named n depth) 0) empty_maps
unfolding marks_named counts_named
fresh_agree n depth =
    subst (λ (k : ℕ). Agree n depth (replicate k 0) (replicate (n * (depth + 2)) 0) empty_maps) (mul_comm depth n)
    (subst (λ (m : ℕ). Agree n depth (replicate (depth * n) 0) (replicate m 0) empty_maps) (mul_comm (depth + 2) n) (zeroed_agree n depth))

-- "Items count from 0 within their kind."
pub cells_below : (s : List ℕ) → CellsBelow (count_of s 5) (sheet_of s)
cells_below s = record {
  present = λ c x e. item_below cells s c x e;
  absent = λ c e. by c e (ltb c (count_of s 5)) refl;
}
  where
    by : (c : ℕ) → (sheet_of s).cell c ≡ none → (t : Bool) → ltb c (count_of s 5) ≡ t → count_of s 5 ≤ c
    by c e true h = let r = item_some cells s c (ltb-true c (count_of s 5) h) in let f = r.1 in let z : ◌≡◌ {A = ℕ} 0 1 = cc in absurd (omega arith)
    by c e false h = ltb-false c (count_of s 5) h
