-- `check_record::values::values_ok` meets its contract. A record's length by its kind says that the fields lie within it.
-- Assumes nothing.
use mathlib.Core.Path.{sym, ◌∙◌}
use native.Mathlib.Omega.{arith}
use Rattle.check_record.proofs.Facts.Lengths.{shape_sized}
use Rattle.check_record.proofs.values.values_ok.Goals as goal

pub reference_ok-requires : goal.reference_ok-requires
reference_ok-requires c = let p = c.requires in omega (arith, p.whole, (shape_sized _ _ p.at_value).reference (sym c.u16_within-kind.ensures ∙ c.in-4.is))

pub cell_ok-requires : goal.cell_ok-requires
cell_ok-requires c = let p = c.requires in omega (arith, p.whole, (shape_sized _ _ p.at_value).cell (sym c.u16_within-kind.ensures ∙ c.in-5.is))
