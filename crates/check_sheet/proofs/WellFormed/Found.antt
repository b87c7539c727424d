-- What is found in a valid sheet: it passes questions 2 to 5 and is of the kind that was looked up.
-- Assumes nothing.
use mathlib.Core.Path.{◌≡◌}
use Prim.Native.Nat.{ℕ, ◌+◌}
use mathlib.Core.List.{List}
use Rattle.walk.specs.Offsets.{kind_at}
use Rattle.walk.specs.Find.{find}
use Rattle.walk.proofs.Every.{find_all}
use Rattle.std.specs.Prelude.{Some}
use Rattle.records.specs.Format as field
use Rattle.records.specs.Format.{reference, offset_in, field_at}
use Rattle.check_record.specs.Values.{zero_box}
use Rattle.check_record.specs.Record.{Right}
use Rattle.check_record.proofs.Facts.Numbers.{GridOk, reference_values}
use Rattle.check_sheet.specs.Valid.{Valid}

module _ (s : List ℕ) (valid : Valid s) where
  pub found_right : (kind n at : ℕ) → find s kind n ≡ Some at → Right s at × (kind_at s at ≡ kind)
  found_right kind n at e = find_all s kind n at (Right s) valid.records e

  -- question 4 of a reference: its columns and rows, its flags, its source's kind and number, and its box
  pub found_grid_ok : (n at : ℕ) → find s 4 n ≡ Some at
      → GridOk (field_at reference field.columns s at) (field_at reference field.rows s at) (field_at reference field.flags s at)
      (field_at reference field.source_kind s at) (field_at reference field.source_number s at) (zero_box s (at + offset_in reference field.box))
  found_grid_ok n at e = let found = found_right 4 n at e in reference_values s at found.0.values found.1
