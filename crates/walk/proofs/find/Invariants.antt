use Prim.Native.Nat.{ℕ}
use mathlib.Core.Path.{◌≡◌}
use mathlib.Core.List.{List}
use Rattle.walk.specs.Find.{find, find_in}
use Rattle.walk.specs.Heads.{heads_at, left}
use Rattle.walk.proofs.find.Given as goal

abbrev pub invariant-loop-head : goal.invariant-loop-head
invariant-loop-head l =
    (goal.iterator-loop-head).can_next l.head-iterator
    × (goal.iterator-loop-head).is_finite l.head-iterator
    × ((xs : List ℕ) × (left l.head-iterator ≡ heads_at l.s xs) × (find_in l.s l.kind l.left xs ≡ find l.s l.kind l.number))
