-- To compute with the text a proof names one definition: `unfolding opened_text` opens it, down to the fields.
-- Assumes nothing.
use Prim.Native.Nat.{ℕ}
use Rattle.fields.specs.Field.{uint_at, uint_bytes, f64_at, f64_bytes, record_bytes}
use Rattle.walk.specs.Offsets.{offsets_in, offsets_from}
use Rattle.plan_text.specs.Text.{digit, digits, decimal_size_in, decimal_size, decimal, hexadecimal, number, float, label_text, each_field, line_of, next_record, lines_at, lines_from}

unfoldable pub opened_text : ℕ
unfolding record_bytes uint_at uint_bytes f64_at f64_bytes offsets_in offsets_from digit digits decimal_size_in decimal_size decimal hexadecimal number float label_text each_field line_of next_record lines_at lines_from
opened_text = 0
