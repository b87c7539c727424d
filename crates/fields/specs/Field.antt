-- Little-endian fields: the number that stands in a list of bytes, the bytes of a number, and the bytes of a record of fields.
-- Document 01: "Records run to the end of the bytes, little-endian"; "Any NaN is written 7FF8000000000000 (hexadecimal)".
-- Definitions only. Assumes nothing.
use Rattle.std.specs.Prelude.{ℕ, zero, suc, ◌+◌, ◌*◌, ◌/◌, ◌%◌, List, [], ◌∷◌, ◌++◌, get_or, Float}
use Rattle.std.specs.Float.{binary64}
use Rattle.std.specs.Float.Ieee.{of_bits, to_bits}

-- ---- one field

-- the number of the k bytes at `at`, the lowest byte first; a byte past the end counts 0
unfoldable pub uint_at : ℕ → List ℕ → ℕ → ℕ
uint_at zero s at = 0
uint_at (suc k) s at = get_or s at 0 + 256 * uint_at k s (at + 1)

-- the lowest k bytes of n, the lowest first
unfoldable pub uint_bytes : ℕ → ℕ → List ℕ
uint_bytes zero n = []
uint_bytes (suc k) n = n % 256 ∷ uint_bytes k (n / 256)

-- the float whose pattern is the 8 bytes at `at`; every NaN pattern is `nan`
unfoldable pub f64_at : List ℕ → ℕ → Float
f64_at s at = of_bits binary64 (uint_at 8 s at)

-- the bytes of a float's pattern, which for `nan` is 7FF8000000000000
unfoldable pub f64_bytes : Float → List ℕ
f64_bytes x = uint_bytes 8 (to_bits binary64 x)

-- ---- a record of fields

pub data Field : Type 0 where
  uint : ℕ → ℕ → Field
  f64 : Float → Field

-- how many bytes a field takes, and which
abbrev pub width : Field → ℕ
width (uint k n) = k
width (f64 x) = 8

abbrev pub field_bytes : Field → List ℕ
field_bytes (uint k n) = uint_bytes k n
field_bytes (f64 x) = f64_bytes x

-- the same of fields one after the other
abbrev pub widths : List Field → ℕ
widths [] = 0
widths (f ∷ fs) = width f + widths fs

unfoldable pub record_bytes : List Field → List ℕ
record_bytes [] = []
record_bytes (f ∷ fs) = field_bytes f ++ record_bytes fs
