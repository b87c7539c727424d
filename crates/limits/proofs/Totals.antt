-- Totals that stop at 2^64 − 1. Assumes nothing.
use mathlib.Core.Path.{◌≡◌}
use Prim.Native.Nat.{ℕ, zero, suc, ◌+◌, ◌≤◌, min}
use native.Mathlib.Omega.{arith}
use Rattle.plan_rules.specs.Limits.{max_total}
use Rattle.plan_rules.specs.Event.{saturate, ◌⊞◌}

-- adding 0 leaves a total as it is, and it is at most the largest
pub saturated : (a b : ℕ) → a ≤ max_total → min (a + b) max_total ≡ a ⊞ b
unfolding ◌⊞◌ saturate
saturated a zero h = omega arith
saturated a (suc n) h = omega arith
