-- What is left to do from a number on is the whole. Assumes nothing.
use mathlib.Core.Path.{◌≡◌}
use mathlib.Core.List.{List}
use Prim.Native.Nat.{ℕ, ◌-◌}
use lib.ListN.{length}
use Rattle.plan_rules.specs.World.{world, each}
use Rattle.plan_rules.specs.OnTape.{given_of}
use Rattle.visit_items.specs.Lists.{push_at, push_numbers}
use Rattle.visit_items.proofs.lists.push_numbers.Given as goal

abbrev pub invariant-loop-i : goal.invariant-loop-i
invariant-loop-i g l =
    (length l.out ≡ length l.initial.out)
    × ((k m : List ℕ) → each (push_at (given_of l.given) (g.I.Items.push l.given l.transform) (g.I.Items.numbers l.given.sheet.now l.at) l.first) (l.count - l.i) l.i (world l.plan l.out k m) ≡ push_numbers (given_of l.given) (g.I.Items.push l.given l.transform) (g.I.Items.numbers l.given.sheet.now l.at) l.first l.count (world l.fn.plan l.fn.out k m))
