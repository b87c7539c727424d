-- The loop over a list of numbers: what is done at a place, and a list of one number.
-- Assumes nothing.
use mathlib.Core.Path.{◌≡◌, refl}
use mathlib.Core.Bool.{true, false}
use mathlib.Core.List.{List}
use Prim.Native.Nat.{ℕ}
use borrow.Author.Tests.{eq-eqb, ne_eqb}
use Rattle.plan_rules.specs.declared.Fixed.{Fixed}
use Rattle.plan_rules.specs.World.{detail_budget_exhausted, Flow, go, halt, bind, each}
use Rattle.plan_rules.specs.OnTape.{Given, query, Output}
use Rattle.visit_items.specs.Lists.{Push, push_at, push_numbers}

module _ {f : Fixed} (g : Given f) (push : Push) (at : ℕ → ℕ) (first : ℕ) where
  module _ (i : ℕ) (w : Output) where
    pub at_first : i ≡ 0 → push_at g push at first i w ≡ push first w
    unfolding push_at
    at_first e = rw (eq-eqb _ _ e)

    module _ (later : i ≡ 0 → ⊥) where
      pub at_limit : detail_budget_exhausted (query g) w.state ≡ true → push_at g push at first i w ≡ halt w
      unfolding push_at
      at_limit full = rw (ne_eqb _ _ later, full)

      pub with_room : detail_budget_exhausted (query g) w.state ≡ false → push_at g push at first i w ≡ push (at i) w
      unfolding push_at
      with_room room = rw (ne_eqb _ _ later, room)

  pub one : (w : Output) → push_numbers g push at first 1 w ≡ push first w
  unfolding each push_at
  one w = bind_go (push first w)
    where
      bind_go : (x : Flow (List ℕ)) → bind x go ≡ x
      bind_go (go v) = refl
      bind_go (halt v) = refl
