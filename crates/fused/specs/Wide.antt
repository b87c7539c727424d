-- The two forms in which the fused sum hands its numbers of 128 bits on. Assumes nothing.
use Rattle.std.specs.Prelude.{◌≡◌, ℕ, ◌*◌, ◌%◌, ◌^◌, ◌≤◌, ◌<◌}
use Rattle.rounding.specs.RoundToOdd.{RoundsToOdd}

-- w shifted up by s until its top bit stands at bit 127, and its upper word m then, rounded to odd
pub record LeadingWord (w m s : ℕ) : Type 0 where
  pub least : 2 ^ 63 ≤ m
  pub under : m < 2 ^ 64
  pub short : s < 128
  pub room : w * 2 ^ s < 2 ^ 128
  pub rounds : RoundsToOdd m (w * 2 ^ s) (2 ^ 64)

-- an operand of the aligned sum, x * 2 ^ e: a zero has the exponent 0, any other x its top bit at bit 124 to 126, and the last four bits are 0
pub record Operand (x e : ℕ) : Type 0 where
  pub even : x % 16 ≡ 0
  pub under : x < 2 ^ 127
  pub least : 0 < e → 2 ^ 124 ≤ x
  pub short : e < 2 ^ 31
