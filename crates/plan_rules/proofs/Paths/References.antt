-- `visit_reference` by code path, at the code's end of the rules.
-- Assumes nothing.
use mathlib.Core.Path.{◌≡◌, refl, ap, ◌∙◌}
use mathlib.Core.Bool.{true, false}
use mathlib.Core.Option.{Option, none}
use Prim.Native.Nat.{ℕ, zero, suc, ◌-◌, ◌<◌}
use native.Mathlib.Omega.{arith}
use lib.Dec.{leb}
use lib.Ieee.{Float}
use Rattle.geometry.specs.declared.placement.Placement.{Placement}
use Rattle.screen.specs.Screen.{collapse_test, collapses}
use Rattle.records.specs.declared.PreparedReference.{PreparedReference}
use Rattle.plan_rules.specs.declared.Fixed.{Fixed}
use Rattle.plan_rules.specs.Visit as visit
use Rattle.plan_rules.specs.OnTape.{Given, Output, visit_found_reference, on_source, on_source_below, visit_reference}

-- At a depth of at most 1 every reference that is in view collapses, so how its source would be visited is not asked. The Rust's `depth.saturating_sub(1)`,
-- which stays at 0 there, and the rules' structural step so come to the same.
pub collapses_shallow : (d : ℕ) → leb d 1 ≡ true → (width height : Float) (members units : ℕ) → collapses (collapse_test width height members units d false) ≡ true
unfolding collapse_test
collapses_shallow d h width height members units = rw h

module _ {f : Fixed} (g : Given f) where
  -- ---- depth falls by one from a reference to its source: `depth.saturating_sub(1)`

  pub one_below : (d : ℕ) → 0 < d → on_source_below g d ≡ on_source g (d - 1)
  one_below zero h = absurd (let z : ⊥ = omega arith in z)
  one_below (suc d) h = let e : d ≡ suc d - 1 = omega arith in ap (on_source g) e

  -- ---- `visit_reference`

  module _ (d n : ℕ) (p : Placement) (w : Output) where
    pub reference_is : visit_reference g d n p w ≡ visit_found_reference g (on_source_below g d) d p (g.sheet.reference n) w
    reference_is = by d
      where
        by : (d : ℕ) → visit_reference g d n p w ≡ visit_found_reference g (on_source_below g d) d p (g.sheet.reference n) w
        by zero = unfold visit.visit_reference in refl
        by (suc d) = unfold visit.visit_reference visit.visit_source in refl

    pub reference_missing : g.sheet.reference n ≡ none → visit_reference g d n p w ≡ w
    unfolding visit.visit_found_reference
    reference_missing e = reference_is ∙ ap (λ (o : Option PreparedReference). visit_found_reference g (on_source_below g d) d p o w) e
