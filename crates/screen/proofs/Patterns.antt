-- What a constant of the code is, of which the code has the pattern: `unfolding patterns` computes it. Assumes nothing.
use Prim.Native.Nat.{ℕ}
use lib.Ieee.{of_bits}

unfoldable pub patterns : ℕ
unfolding of_bits
patterns = 0
