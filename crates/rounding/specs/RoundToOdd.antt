-- Rounding to odd, which keeps what a later rounding to nearest has to know of the digits that were cut off: whether they are all 0. Assumes nothing.
use Rattle.std.specs.Prelude.{◌≡◌, ℕ, ◌+◌, ◌*◌, ◌%◌, ◌<◌, ◌⊎◌}

-- m is n / d where that is whole, and else the odd one of the two whole numbers around it
abbrev pub RoundsToOdd : ℕ → ℕ → ℕ → Type 0
RoundsToOdd m n d = (m * d ≡ n) ⊎ ((m % 2 ≡ 1) × (n < m * d + d) × (m * d < n + d))
