-- Question 5 of document 01, of the record at an offset: "Is every float finite?"
-- Definitions only. Assumes nothing.
use Rattle.std.specs.Prelude.{ℕ, ◌+◌, ◌-◌, ◌/◌, List, Bool, cond, eqb}
use Rattle.floats.specs.Order.{is_finite}
use Rattle.fields.specs.Field.{f64_at}
use Rattle.walk.specs.Offsets.{length_at, kind_at}
use Rattle.records.specs.Format as field
use Rattle.records.specs.Format.{f, geometry, text, node, reference, cell, offset_in, width_in, end_of}
use Rattle.check_record.specs.Tests.{every}

-- the float at an offset is finite
unfoldable pub finite_at : List ℕ → ℕ → Bool
finite_at s at = is_finite (f64_at s at)

-- How far into a record of a kind its floats begin: a batch's box, a reference's origin, a cell's box, a node's points; a text's origin stands where a
-- node's points do. They stand side by side in every kind.
unfoldable pub floats_from : ℕ → ℕ
floats_from kind =
    cond (eqb kind 1) (offset_in geometry field.box)
    (cond (eqb kind 4) (offset_in reference field.origin)
    (cond (eqb kind 5) (offset_in cell field.box)
    (end_of node)))

-- how many there are: a batch's box, a text's origin, a node's points, what a reference has from its origin to its source box, a cell's box
unfoldable pub floats_count : ℕ → ℕ → ℕ
floats_count kind n =
    cond (eqb kind 1) (width_in geometry field.box / f)
    (cond (eqb kind 2) (width_in text field.origin / f)
    (cond (eqb kind 3) ((n - end_of node) / f)
    (cond (eqb kind 4) ((end_of reference - offset_in reference field.origin) / f)
    (width_in cell field.box / f))))

unfoldable pub floats_ok : List ℕ → ℕ → Bool
floats_ok s at = every (finite_at s) f (floats_count (kind_at s at) (length_at s at)) (at + floats_from (kind_at s at))
