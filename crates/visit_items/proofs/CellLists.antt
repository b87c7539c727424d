-- A list of an open cell: what `visit_cell` makes of it is the loop over its numbers, and where that halts the cell's box.
-- Assumes nothing.
use mathlib.Core.Path.{◌≡◌, refl, sym, ap, ◌∙◌}
use mathlib.Core.Bool.{Bool, true, false}
use mathlib.Core.List.{List}
use Prim.Native.Nat.{ℕ, zero, suc, ◌+◌}
use native.Mathlib.Omega.{arith}
use Rattle.plan_rules.specs.declared.Fixed.{Fixed}
use Rattle.plan_rules.specs.declared.Reason.TheVariants.{OtherLimit}
use Rattle.plan_rules.specs.World.{detail_budget_exhausted, Flow, go, halt, bind, each}
use Rattle.plan_rules.specs.OnTape.{Given, query, Output, add_load_if_boxed, halt_with_cell}
use Rattle.visit_items.specs.declared.OpenCell.{OpenCell}
use Rattle.visit_items.specs.Lists.{Push, push_at, push_numbers, cell_step, cell_list}
use Rattle.visit_items.proofs.NumberLoop.{at_first, at_limit, with_room}

module _ {f : Fixed} (g : Given f) (push : Push) (at : ℕ → ℕ) (c : OpenCell) where
  abbrev boxed : Flow (List ℕ) → Flow (List ℕ)
  boxed = halt_with_cell c.number c.bounds

  bind_boxed : (x : Flow (List ℕ)) (on on₁ : Output → Flow (List ℕ)) → ((v : Output) → on v ≡ boxed (on₁ v)) → bind (boxed x) on ≡ boxed (bind x on₁)
  bind_boxed (go v) on on₁ h = h v
  bind_boxed (halt v) on on₁ h = refl

  step_exhausted : (i : ℕ) (w : Output) → detail_budget_exhausted (query g) w.state ≡ true → cell_step g push at c i w ≡ halt (add_load_if_boxed OtherLimit c.number c.bounds w)
  unfolding cell_step
  step_exhausted i w full = rw full

  step_with_room : (i : ℕ) (w : Output) → detail_budget_exhausted (query g) w.state ≡ false → cell_step g push at c i w ≡ boxed (push (at i) w)
  unfolding cell_step
  step_with_room i w room = rw room

  module _ (first : ℕ) where
    later_step : (i : ℕ) (w : Output) (b : Bool) → (i ≡ 0 → ⊥) → detail_budget_exhausted (query g) w.state ≡ b → cell_step g push at c i w ≡ boxed (push_at g push at first i w)
    later_step i w true later full = step_exhausted i w full ∙ ap boxed (sym (at_limit g push at first i w later full))
    later_step i w false later room = step_with_room i w room ∙ ap boxed (sym (with_room g push at first i w later room))

    later_steps : (n i : ℕ) → (i ≡ 0 → ⊥) → (w : Output) → each (cell_step g push at c) n i w ≡ boxed (each (push_at g push at first) n i w)
    unfolding each
    later_steps zero i later w = refl
    later_steps (suc n) i later w =
        ap (λ (x : Flow (List ℕ)). bind x (each (cell_step g push at c) n (i + 1))) (later_step i w _ later refl)
        ∙ bind_boxed (push_at g push at first i w) _ _ (later_steps n (i + 1) (omega arith))

    listed_by : (count : ℕ) (w : Output) → first ≡ at 0 → detail_budget_exhausted (query g) w.state ≡ false → boxed (push_numbers g push at first count w) ≡ cell_list g push at c count w
    unfolding each
    listed_by zero w read room = refl
    listed_by (suc n) w read room =
        sym (ap (λ (x : Flow (List ℕ)). bind x (each (cell_step g push at c) n 1))
        (step_with_room 0 w room ∙ ap boxed (ap (λ (k : ℕ). push k w) (sym read) ∙ sym (at_first g push at first 0 w refl)))
        ∙ bind_boxed (push_at g push at first 0 w) _ _ (later_steps n 1 (omega arith)))

  -- the ways through the code, by the count that it has read
  module _ {count all : ℕ} (counted : count ≡ all) (w : Output) where
    pub none : count ≡ 0 → go w ≡ cell_list g push at c all w
    unfolding each
    none e = rw (sym counted ∙ e)

    pub exhausted : (count ≡ 0 → ⊥) → detail_budget_exhausted (query g) w.state ≡ true → halt (add_load_if_boxed OtherLimit c.number c.bounds w) ≡ cell_list g push at c all w
    unfolding each
    exhausted some full = begin_with all (λ e. some (counted ∙ e))
      where
        begin_with : (n : ℕ) → (n ≡ 0 → ⊥) → halt (add_load_if_boxed OtherLimit c.number c.bounds w) ≡ cell_list g push at c n w
        begin_with zero some = absurd (some refl)
        begin_with (suc n) some = sym (ap (λ (x : Flow (List ℕ)). bind x (each (cell_step g push at c) n 1)) (step_exhausted 0 w full))

    -- the cell's numbers by the loop that begins with the first
    pub listed : {first : ℕ} → first ≡ at 0 → detail_budget_exhausted (query g) w.state ≡ false → {x : Flow (List ℕ)} → x ≡ push_numbers g push at first count w → boxed x ≡ cell_list g push at c all w
    listed {first = first} read room e = ap boxed e ∙ listed_by first count w read room ∙ ap (λ (n : ℕ). cell_list g push at c n w) counted
