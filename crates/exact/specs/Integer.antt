-- Integers, each written as a difference of two natural numbers, since omega reads natural numbers only.
-- Two differences can be the same integer: `◌≐◌` is equality in value. Definitions only. Assumes nothing.
use Rattle.std.specs.Prelude.{◌≡◌, Bool, cond, ℕ, ◌+◌, ◌*◌, ◌≤◌, min, max, ltb, leb, eqb}

-- pos − neg
pub record Integer : Type 0 where
  pub pos : ℕ
  pub neg : ℕ

-- a natural number as an integer
abbrev pub integer : ℕ → Integer
integer n = record { pos = n; neg = 0 }

-- ---- sum, product, negation
infixl 60 ◌⊕◌
abbrev pub ◌⊕◌ : Integer → Integer → Integer
a ⊕ b = record { pos = a.pos + b.pos; neg = a.neg + b.neg }

infixl 70 ◌⊗◌
abbrev pub ◌⊗◌ : Integer → Integer → Integer
a ⊗ b = record { pos = a.pos * b.pos + a.neg * b.neg; neg = a.pos * b.neg + a.neg * b.pos }

abbrev pub negate : Integer → Integer
negate a = record { pos = a.neg; neg = a.pos }

abbrev pub negate_if : Bool → Integer → Integer
negate_if b a = cond b (negate a) a

-- ---- order: equal in value, at most, and the tests
infix 50 ◌≐◌ ◌≼◌
abbrev pub ◌≐◌ : Integer → Integer → Type 0
a ≐ b = a.pos + b.neg ≡ b.pos + a.neg

abbrev pub ◌≼◌ : Integer → Integer → Type 0
a ≼ b = a.pos + b.neg ≤ b.pos + a.neg

abbrev pub is_equal : Integer → Integer → Bool
is_equal a b = eqb (a.pos + b.neg) (b.pos + a.neg)

abbrev pub is_at_most : Integer → Integer → Bool
is_at_most a b = leb (a.pos + b.neg) (b.pos + a.neg)

abbrev pub is_below : Integer → Integer → Bool
is_below a b = ltb (a.pos + b.neg) (b.pos + a.neg)

abbrev pub minimum : Integer → Integer → Integer
minimum a b = record { pos = min (a.pos + b.neg) (b.pos + a.neg); neg = a.neg + b.neg }

abbrev pub maximum : Integer → Integer → Integer
maximum a b = record { pos = max (a.pos + b.neg) (b.pos + a.neg); neg = a.neg + b.neg }

-- ---- of magnitude at most B
pub record Within (B : ℕ) (a : Integer) : Type 0 where
  pub above : a.neg ≤ a.pos + B
  pub below : a.pos ≤ a.neg + B
