use mathlib.Core.Path.{◌≡◌}
use mathlib.Core.List.{List}
use Prim.Native.Nat.{ℕ, ◌-◌}
use lib.ListN.{length}
use Rattle.abstract_sheet.specs.Sheet.{node_record_at}
use Rattle.plan_rules.specs.World.{world, each}
use Rattle.plan_rules.specs.OnTape.{given_of, push_point, push_points}
use Rattle.pushes.proofs.items.push_points.Given as goal

-- what is left to do from a point on is the whole
abbrev pub invariant-loop-i : goal.invariant-loop-i
invariant-loop-i l =
    (length l.out ≡ length l.initial.out)
    × ((k m : List ℕ) → each (push_point (given_of l.given) l.transform (node_record_at l.given.sheet.now l.at)) (l.i-end - l.i) l.i (world l.plan l.out k m) ≡ push_points (given_of l.given) l.transform (node_record_at l.given.sheet.now l.at) (world l.fn.plan l.fn.out k m))
