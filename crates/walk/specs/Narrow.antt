-- Document 02's paper 4, "Narrower offsets": what it says of the walk.
-- Statements only. Assumes nothing.
use Rattle.std.specs.Prelude.{◌≡◌, ℕ, ◌+◌, ◌≤◌, ◌<◌, List, [], ◌∷◌, ◌++◌, length}
use Rattle.walk.specs.Offsets.{max_sheet_bytes, length_at, offsets_from, offsets}
use Rattle.walk.specs.Find.{find, find_in}
use Rattle.walk.specs.Every.{All}

-- "A sheet has at most 16,777,216 bytes": 32 bits hold every offset of a record
abbrev pub OffsetsAreNarrow : Type 0
OffsetsAreNarrow = (s : List ℕ) → All (λ (at : ℕ). at < max_sheet_bytes) (offsets s)

-- "The result keeps its width and meaning": in a sheet a look-up finds the n-th of the kind among all records from the start on
abbrev pub ResultKeepsItsMeaning : Type 0
ResultKeepsItsMeaning = (s : List ℕ) (kind n : ℕ) → length s ≤ max_sheet_bytes → find s kind n ≡ find_in s kind n (offsets_from s 0)

-- the record at an offset says that it reaches past the end of the bytes
abbrev pub ReachesPast : List ℕ → ℕ → Type 0
ReachesPast s at = length s < at + length_at s at

-- "also where a length field is FFFFFFFF": such a record is the last that a walk meets, wherever it stands
abbrev pub LongLengthEndsTheWalk : Type 0
LongLengthEndsTheWalk = (s before after : List ℕ) (at : ℕ) → offsets s ≡ before ++ at ∷ after → ReachesPast s at → after ≡ []

-- FFFFFFFF and three more: one less, the least that 31 bits cannot hold, and one more than a sheet may have bytes
abbrev pub long_lengths : List ℕ
long_lengths = 0xffffffff ∷ 0xfffffffe ∷ 0x80000000 ∷ 0x01000001 ∷ []

-- each of them reaches past the end at any offset, so at the first, a middle and the last record, of a sheet of the largest size too
abbrev pub LongLengthsReachPast : Type 0
LongLengthsReachPast = (s : List ℕ) (at : ℕ) → length s ≤ max_sheet_bytes → All (λ (n : ℕ). length_at s at ≡ n → ReachesPast s at) long_lengths
