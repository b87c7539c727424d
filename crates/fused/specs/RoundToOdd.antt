-- Rounding to odd as the fused sum does it: by a sticky bit, and a second time where enough digits are left. Assumes nothing.
use Rattle.std.specs.Prelude.{◌≡◌, ◌⊎◌, cond, ℕ, ◌+◌, ◌-◌, ◌*◌, ◌%◌, ◌^◌, ◌≤◌, ◌<◌, eqb}

-- `RoundsToOdd` of the crate `rounding`, and m has more than 64 digits where n / d is not whole, so that it can be rounded to odd once more, at 64
abbrev pub RoundsWideToOdd : ℕ → ℕ → ℕ → Type 0
RoundsWideToOdd m n d = (m * d ≡ n) ⊎ ((m % 2 ≡ 1) × (n < m * d + d) × (m * d < n + d) × (2 ^ 64 ≤ m))

-- n with the sticky bit: made odd where the rest that was cut off below it is not 0
unfoldable pub with_sticky : ℕ → ℕ → ℕ
with_sticky n rest = cond (eqb rest 0) n (n + (1 - n % 2))
