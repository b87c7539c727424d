-- What the program `plan` prints, as bytes: the digits of a number, one line for each record of the tape, and for a refusal.
-- Document 01, "The program `plan`": "Other items print in tape order with their fields, as `batch`, `point` and `proxy`: floats as
-- 16 hexadecimal digits, all else decimal, an absent label as `none`. A refusal prints `refused`, number, offset."
-- Definitions only; rests on the fields', the walk's and the records' definitions.
use Rattle.std.specs.Prelude.{cond, List, [], ◌∷◌, ◌++◌, ℕ, zero, suc, ◌+◌, ◌/◌, ◌%◌, length, drop, ltb, eqb}
use Rattle.fields.specs.Field.{uint_at}
use Rattle.fields.specs.Head.{head_width}
use Rattle.walk.specs.Offsets.{length_at, kind_at, offsets_from}
use Rattle.records.specs.Sources.{no_label}
use Rattle.plan_text.specs.Ascii.{ascii}

-- ---- numbers

-- the character of a digit: 0 to 9, then a to f
unfoldable pub digit : ℕ → ℕ
digit d = cond (ltb d 10) (48 + d) (87 + d)

-- the last k digits of n in base b, the most significant first
unfoldable pub digits : ℕ → ℕ → ℕ → List ℕ
digits b zero n = []
digits b (suc k) n = digits b k (n / b) ++ (digit (n % b) ∷ [])

-- how many decimal digits n has: at least one, and at most one and `more`
unfoldable pub decimal_size_in : ℕ → ℕ → ℕ
decimal_size_in zero n = 1
decimal_size_in (suc more) n = cond (ltb n 10) 1 (suc (decimal_size_in more (n / 10)))

-- no number of 64 bits has more than 20 digits
unfoldable pub decimal_size : ℕ → ℕ
decimal_size n = decimal_size_in 19 n

-- without leading zeros
unfoldable pub decimal : ℕ → List ℕ
decimal n = digits 10 (decimal_size n) n

-- "16 hexadecimal digits": the pattern of a float, leading zeros kept
unfoldable pub hexadecimal : ℕ → List ℕ
hexadecimal n = digits 16 16 n

-- ---- the pieces of a line

-- a blank and a number
unfoldable pub number : ℕ → List ℕ
number n = 32 ∷ decimal n

-- a blank and a float
unfoldable pub float : ℕ → List ℕ
float n = 32 ∷ hexadecimal n

-- "cell number as label, or FFFFFFFF (hexadecimal) for none"
unfoldable pub label_text : ℕ → List ℕ
label_text n = cond (eqb n no_label) (ascii " none") (number n)

-- so many fields of 8 bytes from an offset of a record on
unfoldable pub each_field : (ℕ → List ℕ) → ℕ → List ℕ → ℕ → List ℕ
each_field piece zero s at = []
each_field piece (suc n) s at = piece (uint_at 8 s at) ++ each_field piece n s (at + 8)

-- ---- lines, by the bytes from a record's first on

abbrev pub batch_line : List ℕ → List ℕ
batch_line s = ascii "batch" ++ number (uint_at 4 s head_width) ++ each_field float 6 s 10 ++ ascii "\n"

abbrev pub text_line : List ℕ → List ℕ
text_line s = ascii "text" ++ number (uint_at 4 s head_width) ++ each_field float 2 s 10 ++ ascii "\n"

abbrev pub point_line : List ℕ → List ℕ
point_line s = ascii "point" ++ number (uint_at 2 s head_width) ++ number (uint_at 2 s 8) ++ each_field float 2 s 10 ++ ascii "\n"

abbrev pub proxy_line : List ℕ → List ℕ
proxy_line s = ascii "proxy" ++ label_text (uint_at 4 s head_width) ++ each_field float 4 s 10 ++ ascii "\n"

abbrev pub totals_line : List ℕ → List ℕ
totals_line s = ascii "totals" ++ each_field number 7 s head_width ++ ascii "\n"

-- the line of a record by its kind; no other kind stands on a tape
unfoldable pub line_of : List ℕ → List ℕ
line_of s =
    cond (eqb (kind_at s 0) 11) (batch_line s)
    (cond (eqb (kind_at s 0) 12) (text_line s)
    (cond (eqb (kind_at s 0) 13) (point_line s)
    (cond (eqb (kind_at s 0) 14) (proxy_line s)
    (cond (eqb (kind_at s 0) 15) (totals_line s)
    []))))

abbrev pub refused_line : ℕ → ℕ → List ℕ
refused_line refusal offset = ascii "refused" ++ number refusal ++ number offset ++ ascii "\n"

-- ---- the lines of a tape

-- where the next record stands; a record that says it is shorter than its head is the last
unfoldable pub next_record : List ℕ → ℕ → ℕ
next_record s at = cond (ltb (length_at s at) head_width) (length s) (at + length_at s at)

-- the lines of the records at some offsets
unfoldable pub lines_at : List ℕ → List ℕ → List ℕ
lines_at s [] = []
lines_at s (at ∷ xs) = line_of (drop at s) ++ lines_at s xs

-- the lines of a tape from an offset on
unfoldable pub lines_from : List ℕ → ℕ → List ℕ
lines_from s at = lines_at s (offsets_from s at)
