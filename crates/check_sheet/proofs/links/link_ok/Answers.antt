-- `check_sheet::links::link_ok` meets its contract. A record's length by its kind says that the fields lie within it.
-- Assumes nothing.
use mathlib.Core.Path.{sym, ◌∙◌}
use native.Mathlib.Omega.{arith}
use Rattle.check_record.proofs.Facts.Lengths.{shape_sized}
use Rattle.check_sheet.proofs.links.link_ok.Goals as goal

pub source_within-source-requires : goal.source_within-source-requires
source_within-source-requires c =
    let r = c.requires in
    omega (arith, r.whole, (shape_sized _ _ r.shape).reference (sym c.u16_within-kind.ensures ∙ c.in-4.is))

pub lists_named-requires : goal.lists_named-requires
lists_named-requires c =
    let r = c.requires in
    omega (arith, r.whole, (shape_sized _ _ r.shape).cell (sym c.u16_within-kind.ensures ∙ c.in-5.is))
