-- The places of the lent scratch, layer by layer. A layer has one place for each cell of the sheet.
-- Question 11: "Has the counts scratch cells × depth 64-bit places, and the marks scratch cells × (depth + 2) bytes?"
--     marks, layer 0        the planner's open cells: `cell_stack`
--     marks, layer 1        the cells being counted: `complexity_stack`
--     marks, layer d + 1    `complexity_cache` has a count for the depth d, 1 ≤ d ≤ depth
--     counts, layer d - 1   that count
-- At depth 0 nothing is remembered, so no layer stands for it. Reading past the end gives 0 and writing there changes nothing.
-- Definitions only; rests on nothing.
use Rattle.std.specs.Prelude.{Bool, not, List, ℕ, ◌+◌, ◌-◌, ◌*◌, get_or, eqb}

-- a cell's place in a layer, where the sheet has `cells` cells
unfoldable pub place : ℕ → ℕ → ℕ → ℕ
place cells layer cell = layer * cells + cell

abbrev pub open_place : ℕ → ℕ → ℕ
open_place cells cell = place cells 0 cell

abbrev pub counting_place : ℕ → ℕ → ℕ
counting_place cells cell = place cells 1 cell

abbrev pub remembered_place : ℕ → ℕ → ℕ → ℕ
remembered_place cells depth cell = place cells (depth + 1) cell

abbrev pub count_place : ℕ → ℕ → ℕ → ℕ
count_place cells depth cell = place cells (depth - 1) cell

abbrev pub is_marked : List ℕ → ℕ → Bool
is_marked marks place = not (eqb (get_or marks place 0) 0)

-- how many places a plan names in each scratch
unfoldable pub counts_named : ℕ → ℕ → ℕ
counts_named cells depth = cells * depth

unfoldable pub marks_named : ℕ → ℕ → ℕ
marks_named cells depth = cells * (depth + 2)
