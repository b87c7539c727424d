-- Question 2 of document 01, of the record at an offset.
-- Definitions only. Assumes nothing.
use Rattle.std.specs.Prelude.{ℕ, ◌+◌, List, Bool, length, leb}
use Rattle.fields.specs.Head.{head_width}
use Rattle.walk.specs.Offsets.{length_at}
use Rattle.check_record.specs.Tests.{both}

-- "Are 6 bytes left, and is the length at least 6 and within the sheet?"
unfoldable pub frame_ok : List ℕ → ℕ → Bool
frame_ok s at =
    both (leb (at + head_width) (length s))
    (both (leb head_width (length_at s at)) (leb (at + length_at s at) (length s)))
