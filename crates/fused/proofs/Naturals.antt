-- Natural numbers: a difference of a difference, tests that are equal, and ORs that are 0. Assumes nothing.
use mathlib.Core.Path.{◌≡◌, refl, ◌∙◌}
use mathlib.Core.Bool.{Bool, true, false}
use Prim.Native.Nat.{ℕ, ◌+◌, ◌-◌, ◌≤◌}
use native.Mathlib.Omega.{arith}
use lib.Dec.{T}
use lib.Bits.{bit_and, bit_or, or_add_and, and_le_l, and_le_r, or_zero_l}

pub sub_sub_cancel : (a b : ℕ) → a ≤ b → b - (b - a) ≡ a
sub_sub_cancel a b h = omega arith

-- ---- two tests that pass together are equal
pub same_test : (a b : Bool) → (T a → T b) → (T b → T a) → a ≡ b
same_test true true p q = refl
same_test true false p q = absurd (p tt)
same_test false true p q = absurd (q tt)
same_test false false p q = refl

-- ---- an OR is 0 where both its operands are
pub or_zero : (a b : ℕ) → bit_or a b ≡ 0 → (a ≡ 0) × (b ≡ 0)
or_zero a b z = go a b (bit_or a b) (bit_and a b) (or_add_and a b) (and_le_l a b) (and_le_r a b) z
  where
    go : (a b x y : ℕ) → x + y ≡ a + b → y ≤ a → y ≤ b → x ≡ 0 → (a ≡ 0) × (b ≡ 0)
    go a b x y p q t z = omega arith

pub zero_or : (a b : ℕ) → a ≡ 0 → b ≡ 0 → bit_or a b ≡ 0
zero_or a b p q = (λ i. bit_or (p i) (q i)) ∙ or_zero_l 0
