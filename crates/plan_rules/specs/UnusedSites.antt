-- DOCUMENT 02, PAPER 3, "Unused sites weigh nothing": its sentences, as types, over every sheet, depth and scratch. Its P case is in `Readings`.
-- Definitions only; rests on `DrawUnits` and `Visit`. Proofs: UnusedSites.
use Rattle.std.specs.Prelude.{◌≡◌, true, false, ◌||◌, List, ℕ, ◌-◌, ◌*◌, ◌≤◌, ◌<◌, max, Float}
use Rattle.std.proofs.Math.Option.{none}
use Rattle.std.specs.Float.Ieee.{lt}
use Rattle.grid.specs.Grid.{grid_count}
use Rattle.screen.specs.Screen.{ref_load_threshold_px, ref_max_grid_expansion, should_collapse_reference}
use Rattle.records.specs.declared.PreparedSource.TheVariants.{Geometry, Text, Node}
use Rattle.records.specs.declared.PreparedReference.{PreparedReference}
use Rattle.abstract_sheet.specs.Sheet.{Sheet}
use Rattle.plan_rules.specs.Event.{saturate}
use Rattle.plan_rules.specs.Scratch.{counting_place, remembered_place, is_marked}
use Rattle.plan_rules.specs.DrawUnits.{reference_draw_units, source_draw_units, cell_draw_units}
use Rattle.plan_rules.specs.Visit.{source_units}

-- "A reference whose source counts 0 units shall count 0": its source is asked one depth below, and from depth 2 on
abbrev pub UnusedSitesCountNothing : Type 0
UnusedSitesCountNothing = (S : Sheet) (cells depth : ℕ) (r : PreparedReference) (k m : List ℕ)
    → 1 < depth → (source_draw_units S cells (depth - 1) r.source k m).units ≡ 0 → (reference_draw_units S cells depth r k m).units ≡ 0

-- "where it counted one a member until now": of a source that counts, a reference counts as before, as the Rust has it
abbrev pub OthersCountAsBefore : Type 0
OthersCountAsBefore = (S : Sheet) (cells depth : ℕ) (r : PreparedReference) (k m : List ℕ)
    → let n = (source_draw_units S cells (depth - 1) r.source k m).units in
    1 < depth → 1 ≤ n → (reference_draw_units S cells depth r k m).units ≡ saturate (grid_count r.grid * max n 1)

-- "a reference at depth 1 still counts one a member", up to where every count stops
abbrev pub OneAMemberAtDepthOne : Type 0
OneAMemberAtDepthOne = (S : Sheet) (cells depth : ℕ) (r : PreparedReference) (k m : List ℕ) → depth ≤ 1 → (reference_draw_units S cells depth r k m).units ≡ saturate (grid_count r.grid)

-- "and a missing cell"
abbrev pub MissingCellCountsOne : Type 0
MissingCellCountsOne = (S : Sheet) (cells depth n : ℕ) (k m : List ℕ) → S.cell n ≡ none → (cell_draw_units S cells depth n k m).units ≡ 1

-- "or one in an open circle still counts one": a cell that is being counted, unless its count at this depth is remembered
abbrev pub OpenCircleCountsOne : Type 0
OpenCircleCountsOne = (S : Sheet) (cells depth n : ℕ) (k m : List ℕ)
    → is_marked m (remembered_place cells depth n) ≡ false → is_marked m (counting_place cells n) ≡ true → (cell_draw_units S cells depth n k m).units ≡ 1

-- A batch, text or node as a source counts one as before: the paper leaves it alone.
abbrev pub ItemCountsOne : Type 0
ItemCountsOne = (S : Sheet) (cells depth n : ℕ) (k m : List ℕ)
    → ((source_draw_units S cells depth (Geometry n) k m).units ≡ 1) × ((source_draw_units S cells depth (Text n) k m).units ≡ 1) × ((source_draw_units S cells depth (Node n) k m).units ≡ 1)

-- "the share of one member (still at least 1)"
abbrev pub ShareAtLeastOne : Type 0
ShareAtLeastOne = (units count : ℕ) → 1 ≤ source_units units count

-- "All that rests on the count follows: collapse": a reference of 0 units, or a member of one, collapses for its depth, its sides or its members, and never as dense
abbrev pub UnusedSitesAreNeverDense : Type 0
UnusedSitesAreNeverDense = (w h : Float) (members depth count : ℕ)
    → lt w ref_load_threshold_px || lt h ref_load_threshold_px ≡ false → members ≤ ref_max_grid_expansion → 1 < depth
    → (should_collapse_reference w h members 0 depth false ≡ false) × (should_collapse_reference w h 1 (source_units 0 count) depth false ≡ false)
