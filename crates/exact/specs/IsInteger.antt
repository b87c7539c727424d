-- Floats that are integers, and the integer that such a float is. Definitions only. Assumes nothing.
use Rattle.std.specs.Prelude.{◌≡◌, Bool, ℕ, ◌+◌, ◌*◌, ◌/◌, ◌^◌, Float}
use Rattle.std.specs.Float.{nan, inf, fin}
use Rattle.std.specs.Float.Ieee.{up, down}
use Rattle.exact.specs.Integer.{Integer, integer, negate_if}

-- The fraction a / c with the sign s (true: negative) is the integer i, for a c above 0: a / c is ±i, and ±i is pos − neg.
abbrev pub IsQuotient : Bool → ℕ → ℕ → Integer → Type 0
IsQuotient s a c i = a + (negate_if s i).neg * c ≡ (negate_if s i).pos * c

-- The float is finite and its value is i. A zero of either sign is 0. (2 ^ e is up e / down e.)
abbrev pub IsInteger : Float → Integer → Type 0
IsInteger nan i = ⊥
IsInteger (inf s) i = ⊥
IsInteger (fin s m e) i = IsQuotient s (m * up e) (down e) i

-- the integer that a float is; where it is none, its value cut toward 0
abbrev pub integer_of : Float → Integer
integer_of nan = integer 0
integer_of (inf s) = integer 0
integer_of (fin s m e) = negate_if s (integer (m * up e / down e))

-- An f64 holds every integer up to this magnitude, so sums, products and the fused operation are exact as far as their results lie within it.
abbrev pub exact_up_to : ℕ
exact_up_to = 2 ^ 53
