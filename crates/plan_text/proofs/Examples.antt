-- Examples, computed: the line of a refusal, and numbers. The lines of records are computed in `plan_answer`, where the rules write them.
-- Assumes nothing.
use mathlib.Core.Path.{◌≡◌, refl}
use Rattle.plan_text.specs.Ascii.{ascii}
use Rattle.plan_text.specs.Text.{decimal, hexadecimal, refused_line}
use Rattle.plan_text.proofs.Opened.{opened_text}

pub refused_line_lem : refused_line 6 16777216 ≡ ascii "refused 6 16777216\n"
unfolding opened_text
refused_line_lem = refl

-- ---- numbers

pub numbers : (decimal 0 ≡ ascii "0") × (decimal 9 ≡ ascii "9") × (decimal 10 ≡ ascii "10") × (decimal 18446744073709551615 ≡ ascii "18446744073709551615")
unfolding opened_text
numbers = (refl, refl, refl, refl)

pub patterns : (hexadecimal 0 ≡ ascii "0000000000000000") × (hexadecimal 0x7FF8000000000000 ≡ ascii "7ff8000000000000") × (hexadecimal 0x123456789ABCDEF ≡ ascii "0123456789abcdef")
unfolding opened_text
patterns = (refl, refl, refl)
