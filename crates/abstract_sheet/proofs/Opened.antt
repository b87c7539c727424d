-- To compute with a sheet, a proof names one definition: `unfolding opened` opens all those that lead from bytes to the abstract sheet.
-- Assumes nothing.
use Prim.Native.Nat.{ℕ}
use lib.Ieee.{of_bits, to_bits}
use Rattle.fields.specs.Field.{uint_at, f64_at, uint_bytes, f64_bytes, record_bytes}
use Rattle.walk.specs.Offsets.{offsets, offsets_from, offsets_in}
use Rattle.walk.specs.Find.{of_kind_in, answer, find_in}
use Rattle.records.specs.Records.{dvec2_at, world_bbox_at, bounds_at, bit, source_of, geometry_at, text_at, node_at, node_point_at, grid_at, reference_at, cell_at, texts_from, nodes_from, references_from, cell_number_at, cell_geometry_at, cell_text_at, cell_node_at, cell_reference_at}
use Rattle.abstract_sheet.specs.Sheet.{node_record_at, cell_record_at, sheet_by, sheet_of}

unfoldable pub opened : ℕ
unfolding of_bits to_bits uint_at f64_at uint_bytes f64_bytes record_bytes offsets offsets_from offsets_in of_kind_in answer find_in dvec2_at world_bbox_at bounds_at bit source_of geometry_at text_at node_at node_point_at grid_at reference_at cell_at texts_from nodes_from references_from cell_number_at cell_geometry_at cell_text_at cell_node_at cell_reference_at node_record_at cell_record_at sheet_by sheet_of
opened = 0
