-- A valid sheet is well formed: what questions 1 to 7 ask of the bytes gives what the abstract sheet says of its records.
--     Found     what is found passes questions 2 to 5
--     Linked    what question 7 asked of it
--     Named     what is named exists, and a reference source is an earlier reference
--     Limits    columns, rows, points, cells and cell sources
--     Finite    every float
-- Assumes nothing.
pub mod Found
pub mod Linked
pub mod Named
pub mod Limits
pub mod Finite
use Rattle.check_sheet.specs.WellFormed.{ValidIsWellFormed}
use Rattle.check_sheet.proofs.WellFormed.Named.{cell_named, source_named_lem}
use Rattle.check_sheet.proofs.WellFormed.Limits.{few_cells, reference_limits, node_limits}
use Rattle.check_sheet.proofs.WellFormed.Finite.{geometry_finite, text_finite, node_finite, grid_finite, source_box_finite, cell_box_finite}

pub valid_well_formed : ValidIsWellFormed
valid_well_formed s valid =
    record {
      cell_named = cell_named s valid;
      source_named = source_named_lem s valid;
      few_cells = few_cells s valid;
      reference_limits = reference_limits s valid;
      node_limits = node_limits s valid;
      geometry_finite = geometry_finite s valid;
      text_finite = text_finite s valid;
      node_finite = node_finite s valid;
      grid_finite = grid_finite s valid;
      source_box_finite = source_box_finite s valid;
      cell_box_finite = cell_box_finite s valid;
    }
