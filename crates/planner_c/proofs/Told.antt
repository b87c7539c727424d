-- An answer that is told in numbers is that answer.
-- Assumes nothing.
use mathlib.Core.Path.{◌≡◌}
use mathlib.Core.List.{List}
use Prim.Native.Nat.{ℕ}
use Rattle.plan_rules.specs.Outcome.{Answer, Outcome, number_of, offset_of, length_of, outcome}

pub told : (a : Answer) {number offset length : ℕ} (o k m : List ℕ) → (number ≡ number_of a) × (offset ≡ offset_of a) × (length ≡ length_of a)
    → ◌≡◌ {A = Outcome} (record { number = number; offset = offset; tape_length = length; out = o; counts = k; marks = m }) (outcome a o k m)
told a o k m e = λ i. record { number = e.0 i; offset = e.1 i; tape_length = e.2 i; out = o; counts = k; marks = m }
