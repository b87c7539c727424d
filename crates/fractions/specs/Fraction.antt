-- EXACT FRACTIONS. Document 02, paper 14: "taking the sheet's numbers as exact fractions with a power of two below". A fraction is a whole number over a power of two; two
-- writings can be the same fraction. Definitions only. Assumes nothing.
use Rattle.std.specs.Prelude.{T, ℤ, pos, negsuc, Float, ℕ, suc, ◌+◌, ◌*◌, ◌^◌}
use Rattle.std.specs.Float.{nan, inf, fin}
use Rattle.std.specs.Float.Ieee.{up}
use Rattle.floats.specs.Order.{is_finite}
use Rattle.exact.specs.Integer.{Integer, integer, ◌⊕◌, ◌⊗◌, negate, negate_if, Within}

-- num / 2 ^ places
pub record Fraction : Type 0 where
  pub num : Integer
  pub places : ℕ

-- a natural number as a fraction
abbrev pub fraction : ℕ → Fraction
fraction n = record { num = integer n; places = 0 }

-- an integer times a natural number
infixl 70 ◌⊙◌
abbrev pub ◌⊙◌ : Integer → ℕ → Integer
i ⊙ n = record { pos = i.pos * n; neg = i.neg * n }

-- ---- sum, difference, product: exact, as no place is dropped
infixl 60 ◌⊞◌ ◌⊟◌
abbrev pub ◌⊞◌ : Fraction → Fraction → Fraction
a ⊞ b = record { num = a.num ⊙ 2 ^ b.places ⊕ b.num ⊙ 2 ^ a.places; places = a.places + b.places }

abbrev pub opposite : Fraction → Fraction
opposite a = record { num = negate a.num; places = a.places }

abbrev pub ◌⊟◌ : Fraction → Fraction → Fraction
a ⊟ b = a ⊞ opposite b

infixl 70 ◌⊠◌
abbrev pub ◌⊠◌ : Fraction → Fraction → Fraction
a ⊠ b = record { num = a.num ⊗ b.num; places = a.places + b.places }

-- ---- magnitude: −E / 2 ^ k ≤ a ≤ E / 2 ^ k
abbrev pub AtMost : ℕ → ℕ → Fraction → Type 0
AtMost E k a = Within (E * 2 ^ a.places) (a.num ⊙ 2 ^ k)

-- ---- floats

abbrev pub Finite : Float → Type 0
Finite x = T (is_finite x)

-- 2 ^ e is up e / 2 ^ (places_of e)
abbrev pub places_of : ℤ → ℕ
places_of (pos k) = 0
places_of (negsuc k) = suc k

-- the value of a finite float; of the others, of which nothing is said, 0
abbrev pub value_of : Float → Fraction
value_of nan = fraction 0
value_of (inf s) = fraction 0
value_of (fin s m e) = record { num = negate_if s (integer (m * up e)); places = places_of e }
