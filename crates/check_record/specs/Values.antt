-- Question 4 of document 01, of the record at an offset: "Are columns and rows at most 32,767, spare flag bits zero, absent boxes zero,
-- the source kind 1 to 5, and a cell source below FFFFFFFF (hexadecimal)?" Only a reference and a cell have such fields.
-- Definitions only. Assumes nothing.
use Rattle.std.specs.Prelude.{ℕ, ◌+◌, ◌*◌, ◌/◌, ◌%◌, List, Bool, true, cond, ltb, leb, eqb}
use Rattle.fields.specs.Field.{uint_at}
use Rattle.walk.specs.Offsets.{kind_at}
use Rattle.records.specs.Format as field
use Rattle.records.specs.Format.{f, reference, cell, offset_in, field_at, max_grid_side}
use Rattle.records.specs.Records.{source_field_at}
use Rattle.records.specs.Sources.{no_label}
use Rattle.check_record.specs.Tests.{both}

-- "An absent box is 32 zero bytes."
unfoldable pub zero_box : List ℕ → ℕ → Bool
zero_box s at = eqb (uint_at (4 * f) s at) 0

-- "the source kind 1 to 5, and a cell source below FFFFFFFF (hexadecimal)"
unfoldable pub source_ok : ℕ → ℕ → Bool
source_ok kind number = both (leb 1 kind) (both (leb kind 5) (cond (eqb kind 5) (ltb number no_label) true))

-- "Reference flags: bit 0 reflection, bit 1 source box present." The last two say whether the source is right and whether the box is all zero.
unfoldable pub grid_ok : ℕ → ℕ → ℕ → Bool → Bool → Bool
grid_ok columns rows flags source zeros =
    both (leb columns max_grid_side)
    (both (leb rows max_grid_side)
    (both (ltb flags 4)
    (both source (cond (eqb (flags / 2 % 2) 1) true zeros))))

unfoldable pub reference_ok : List ℕ → ℕ → Bool
reference_ok s at =
    grid_ok (field_at reference field.columns s at) (field_at reference field.rows s at) (field_at reference field.flags s at)
    (source_ok (source_field_at s at).kind (source_field_at s at).number)
    (zero_box s (at + offset_in reference field.box))

-- "Cell flags: bit 0 box present."
unfoldable pub cell_ok : List ℕ → ℕ → Bool
cell_ok s at =
    both (ltb (field_at cell field.flags s at) 2)
    (cond (eqb (field_at cell field.flags s at) 1) true (zero_box s (at + offset_in cell field.box)))

unfoldable pub values_ok : List ℕ → ℕ → Bool
values_ok s at = cond (eqb (kind_at s at) 4) (reference_ok s at) (cond (eqb (kind_at s at) 5) (cell_ok s at) true)
