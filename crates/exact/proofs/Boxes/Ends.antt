-- One coordinate of a placed box: the stretch from a to b, negated or not, moved by t. Assumes nothing.
use mathlib.Core.Bool.{Bool, true, false}
use Prim.Native.Nat.{ℕ, ◌+◌}
use native.Mathlib.Omega.{arith}
use Rattle.exact.specs.Integer.{Integer, ◌⊕◌, negate, negate_if, ◌≼◌, Within}
use Rattle.exact.specs.Box.{lower_end, upper_end}
use Rattle.exact.proofs.Integers.Bounds.{within_cond, within_negate_if}

module _ (a b t : Integer) where
  pub lower_holds : (n : Bool) (v : Integer) → a ≼ v → v ≼ b → lower_end n a b ⊕ t ≼ negate_if n v ⊕ t
  lower_holds false v h k = omega arith
  lower_holds true v h k = omega arith

  pub upper_holds : (n : Bool) (v : Integer) → a ≼ v → v ≼ b → negate_if n v ⊕ t ≼ upper_end n a b ⊕ t
  upper_holds false v h k = omega arith
  upper_holds true v h k = omega arith

  pub lower_encloses : (n : Bool) (c d : Integer) → c ≼ a → b ≼ d → lower_end n c d ⊕ t ≼ lower_end n a b ⊕ t
  lower_encloses false c d h k = omega arith
  lower_encloses true c d h k = omega arith

  pub upper_encloses : (n : Bool) (c d : Integer) → c ≼ a → b ≼ d → upper_end n a b ⊕ t ≼ upper_end n c d ⊕ t
  upper_encloses false c d h k = omega arith
  upper_encloses true c d h k = omega arith

  pub lower_least : (n : Bool) (w : Integer) → w ≼ negate_if n a ⊕ t → w ≼ negate_if n b ⊕ t → w ≼ lower_end n a b ⊕ t
  lower_least false w h k = h
  lower_least true w h k = k

  pub upper_least : (n : Bool) (w : Integer) → negate_if n a ⊕ t ≼ w → negate_if n b ⊕ t ≼ w → upper_end n a b ⊕ t ≼ w
  upper_least false w h k = k
  upper_least true w h k = h

  pub ends_ordered : (n : Bool) → a ≼ b → lower_end n a b ⊕ t ≼ upper_end n a b ⊕ t
  ends_ordered false h = omega arith
  ends_ordered true h = omega arith

  pub ends_apart : (n : Bool) (B : ℕ) → Within B a → Within B b → Within (B + B) ((upper_end n a b ⊕ t) ⊕ negate (lower_end n a b ⊕ t))
  ends_apart false B h k = record { above = omega arith; below = omega arith }
  ends_apart true B h k = record { above = omega arith; below = omega arith }

pub lower_within : (B : ℕ) (n : Bool) (a b : Integer) → Within B a → Within B b → Within B (lower_end n a b)
lower_within B n a b h k = within_cond B n (negate b) a (within_negate_if B true b k) h

pub upper_within : (B : ℕ) (n : Bool) (a b : Integer) → Within B a → Within B b → Within B (upper_end n a b)
upper_within B n a b h k = within_cond B n (negate a) b (within_negate_if B true a h) k
