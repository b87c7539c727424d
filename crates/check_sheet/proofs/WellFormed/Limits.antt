-- The columns, rows, points, cells and cell sources of a valid sheet are within document 01's limits.
-- Assumes nothing.
use mathlib.Core.Path.{◌≡◌}
use Prim.Native.Nat.{ℕ, ◌<◌}
use native.Mathlib.Omega.{arith}
use mathlib.Core.List.{List}
use mathlib.Core.Option.{some}
use Rattle.records.specs.declared.PreparedReference.{PreparedReference}
use Rattle.records.specs.Records.{node_at, grid_at, reference_at}
use Rattle.records.specs.Format.{max_cells}
use Rattle.abstract_sheet.specs.Sheet.{NodeRecord, CellRecord, sheet_of, node_record_at, nodes, references, cells}
use Rattle.abstract_sheet.proofs.Lookup.{item_located, item_below}
use Rattle.check_record.proofs.Facts.Lengths.{shape_sized}
use Rattle.check_sheet.specs.Valid.{Valid}
use Rattle.check_sheet.specs.WellFormed.{ReferenceLimits, NodeLimits}
use Rattle.check_sheet.proofs.WellFormed.Found.{found_right, found_grid_ok}
use Rattle.check_sheet.proofs.WellFormed.Named.{cell_source_below}

module _ (s : List ℕ) (valid : Valid s) (n : ℕ) where
  -- question 6
  pub few_cells : (c : CellRecord) → (sheet_of s).cell n ≡ some c → n < max_cells
  few_cells c e = omega (arith, item_below cells s n c e, valid.few_cells)

  -- question 4
  pub reference_limits : (r : PreparedReference) → (sheet_of s).reference n ≡ some r → ReferenceLimits r
  unfolding reference_at grid_at
  reference_limits r e =
      let l = item_located references s n r e in
      let grid = found_grid_ok s valid n l.at l.found in
      record {
        columns = rw l.same grid.columns_most;
        rows = rw l.same grid.rows_most;
        cell_source = cell_source_below s valid n r e;
      }

  -- question 3
  pub node_limits : (d : NodeRecord) → (sheet_of s).node n ≡ some d → NodeLimits d
  unfolding node_record_at node_at
  node_limits d e =
      let l = item_located nodes s n d e in
      let right = found_right s valid 3 n l.at l.found in
      let size = (shape_sized s l.at right.0.shape).node right.1 in
      record { least = rw l.same (omega (arith, size)); most = rw l.same (omega (arith, size)) }
