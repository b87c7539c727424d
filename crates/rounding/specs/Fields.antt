-- The fields of an f64's pattern: a finite value is its significand times 2 ^ (its exponent - 1074). Assumes nothing.
use Rattle.std.specs.Prelude.{◌≡◌, ℕ, ◌+◌, ◌-◌, ◌*◌, ◌/◌, ◌%◌, ◌^◌, ◌<◌, ◌≤◌, cond, ◌⊎◌, ◌==◌}

unfoldable pub exponent_field_of : ℕ → ℕ
exponent_field_of n = n / 2 ^ 52 % 2 ^ 11

-- the fraction, with the leading one where the exponent's field is not 0
unfoldable pub significand_of : ℕ → ℕ
unfolding exponent_field_of
significand_of n = cond (exponent_field_of n == 0) (n % 2 ^ 52) (2 ^ 52 + n % 2 ^ 52)

-- the exponent of the significand's last digit, counted from that of the smallest value
unfoldable pub exponent_of : ℕ → ℕ
unfolding exponent_field_of
exponent_of n = exponent_field_of n - 1

-- m * 2 ^ e is the significand of the pattern n times 2 ^ (its exponent + 63); m is 0, or has its top bit at bit 62
pub record Normalised (n m e : ℕ) : Type 0 where
  pub value : m * 2 ^ e ≡ significand_of n * 2 ^ exponent_of n * 2 ^ 63
  pub even : m % 4 ≡ 0
  pub under : m < 2 ^ 63
  pub least : (m ≡ 0) ⊎ (2 ^ 62 ≤ m)
  pub short : e < 2 ^ 12
