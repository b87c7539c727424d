-- What the boxes of a sheet with true boxes surround. Assumes nothing.
use mathlib.Core.Path.{◌≡◌, refl, subst}
use Prim.Native.Nat.{ℕ, ◌<◌}
use Rattle.geometry.specs.declared.bbox.WorldBBox.{WorldBBox}
use Rattle.geometry.specs.declared.bbox.Bounds.{Bounds}
use Rattle.geometry.specs.declared.bbox.Bounds.TheVariants.{Absent, Box}
use Rattle.geometry.specs.Bbox.{bbox, boxed}
use Rattle.abstract_sheet.specs.Sheet.{NodeRecord}
use Rattle.exact.specs.Placement.{vector_of}
use Rattle.exact.specs.Box.{IntegerBox, point_box, Inside, box_of}
use Rattle.exact.proofs.Boxes.Relations.{same_enclosed, holds_point}
use Rattle.paths.specs.TrueBoxes.{Encloses, EnclosesBounds, IsThere, SameBounds, IsLeastBox}

-- a box that is there and has z inside
abbrev pub Surrounds : Bounds → IntegerBox → Type 0
Surrounds o z = (b : WorldBBox) × (o ≡ boxed b) × Inside z (box_of b)

pub enclosing : (o : Bounds) (z : IntegerBox) → Encloses o z → Surrounds o z
unfolding boxed
enclosing Absent z h = absurd h
enclosing (Box a b c d) z h = (bbox a b c d, refl, h)

pub present : (o : Bounds) (z : IntegerBox) → IsThere o z → Surrounds o z
unfolding boxed
present Absent z h = absurd h
present (Box a b c d) z h = (bbox a b c d, refl, same_enclosed (box_of (bbox a b c d)) z h)

-- the same as a box that is there
pub same_present : (o u : Bounds) (b : WorldBBox) → u ≡ boxed b → SameBounds o u → Surrounds o (box_of b)
unfolding boxed
same_present o u b e h = by o (subst (λ (x : Bounds). SameBounds o x) e h)
  where
    by : (o : Bounds) → SameBounds o (boxed b) → Surrounds o (box_of b)
    by Absent h = absurd h
    by (Box x₀ y₀ x₁ y₁) h = present (Box x₀ y₀ x₁ y₁) (box_of b) h

pub bounds_enclosing : (o u : Bounds) (b : WorldBBox) → u ≡ boxed b → EnclosesBounds o u → Surrounds o (box_of b)
unfolding boxed
bounds_enclosing o u b e h = enclosing o (box_of b) (subst (λ (x : Bounds). EnclosesBounds o x) e h)

pub least_surrounds : (o : Bounds) (x : NodeRecord) → IsLeastBox o x → (j : ℕ) → j < x.count → Surrounds o (point_box (vector_of (x.point j)))
unfolding boxed
least_surrounds Absent x h j j< = absurd h
least_surrounds (Box a b c d) x h j j< = (bbox a b c d, refl, holds_point (box_of (bbox a b c d)) (vector_of (x.point j)) (h.holds j j<))
