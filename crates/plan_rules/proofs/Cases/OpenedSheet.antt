-- To compute an outcome from a sheet's bytes: `unfolding opened_sheet` opens questions 1 to 7 (the abstract sheet has its own `opened`).
-- Assumes nothing.
use Prim.Native.Nat.{ℕ}
use Rattle.check_record.specs.Tests.{both, every}
use Rattle.check_record.specs.Frame.{frame_ok}
use Rattle.check_record.specs.Shape.{lists_at, length_ok, shape_ok}
use Rattle.check_record.specs.Values.{zero_box, source_ok, grid_ok, reference_ok, cell_ok, values_ok}
use Rattle.check_record.specs.Floats.{finite_at, floats_from, floats_count, floats_ok}
use Rattle.check_record.specs.Record.{check_record}
use Rattle.check_sheet.specs.Count.{counts_of, tallied}
use Rattle.check_sheet.specs.Links.{source_named, below_at, lists_named, link_ok}
use Rattle.check_sheet.specs.Check.{first_no, first_unnamed, check_sheet}

unfoldable pub opened_sheet : ℕ
unfolding both every frame_ok lists_at length_ok shape_ok zero_box source_ok grid_ok reference_ok cell_ok values_ok finite_at floats_from floats_count floats_ok check_record counts_of tallied source_named below_at lists_named link_ok first_no first_unnamed check_sheet
opened_sheet = 0
