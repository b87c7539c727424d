-- `plan` by code path, at the code's end of the rules: depth 0, and any other depth.
-- Assumes nothing.
use mathlib.Core.Path.{◌≡◌, refl, ap, ◌∙◌}
use mathlib.Core.Bool.{true, false}
use mathlib.Core.Option.{Option, none, some}
use Prim.Native.Nat.{ℕ, zero, suc, ◌<◌}
use native.Mathlib.Omega.{arith}
use lib.Ieee.{Float}
use Rattle.geometry.specs.declared.bbox.Bounds.{Bounds}
use Rattle.geometry.specs.declared.bbox.Bounds.TheVariants.{Absent, Box}
use Rattle.geometry.specs.Placement.{IDENTITY}
use Rattle.geometry.specs.Bbox.{bbox, overlaps}
use Rattle.abstract_sheet.specs.Sheet.{CellRecord}
use Rattle.plan_rules.specs.declared.Fixed.{Fixed}
use Rattle.plan_rules.specs.declared.Reason.TheVariants as reason
use Rattle.plan_rules.specs.Plan as plan
use Rattle.plan_rules.specs.OnTape.{Given, Output, add_load, load_root_box, load_root, visit_cell, visit_root}

module _ {f : Fixed} (g : Given f) (w : Output) where
  -- ---- depth 0

  root : (o : Option CellRecord) → g.sheet.cell f.options.root ≡ o → visit_root g 0 w ≡ load_root g o w
  unfolding plan.visit_root
  root o e = ap (λ (o : Option CellRecord). load_root g o w) e

  pub root_missing : g.sheet.cell f.options.root ≡ none → visit_root g 0 w ≡ w
  unfolding plan.load_root
  root_missing e = root none e

  module _ {c : CellRecord} (e : g.sheet.cell f.options.root ≡ some c) where
    boxed : (o : Bounds) → c.bbox ≡ o → visit_root g 0 w ≡ load_root_box g o w
    unfolding plan.load_root
    boxed o a = root (some c) e ∙ ap (λ (o : Bounds). load_root_box g o w) a

    pub root_unboxed : c.bbox ≡ Absent → visit_root g 0 w ≡ w
    unfolding plan.load_root_box
    root_unboxed a = boxed Absent a

    module _ {x₀ y₀ x₁ y₁ : Float} (has-box : c.bbox ≡ Box x₀ y₀ x₁ y₁) where
      pub root_outside : overlaps (bbox x₀ y₀ x₁ y₁) f.options.view ≡ false → visit_root g 0 w ≡ w
      unfolding plan.load_root_box
      root_outside a = boxed (Box x₀ y₀ x₁ y₁) has-box ∙ (rw a)

      pub root_loaded : overlaps (bbox x₀ y₀ x₁ y₁) f.options.view ≡ true → visit_root g 0 w ≡ add_load reason.DepthZero f.options.root (bbox x₀ y₀ x₁ y₁) w
      unfolding plan.load_root_box
      root_loaded a = boxed (Box x₀ y₀ x₁ y₁) has-box ∙ (rw a)

  -- ---- any other depth

  pub root_visited : (d : ℕ) → 0 < d → visit_root g d w ≡ visit_cell g d f.options.root IDENTITY w
  root_visited zero h = absurd (let z : ⊥ = omega arith in z)
  root_visited (suc d) h = unfold plan.visit_root in refl
