-- A square sheet's floats are the integers that `exact` reads off them. Assumes nothing.
use mathlib.Core.Path.{◌≡◌, subst}
use mathlib.Core.Option.{some}
use Prim.Native.Nat.{ℕ, ◌^◌, ◌≤◌}
use Rattle.geometry.specs.declared.placement.DVec2.{DVec2}
use Rattle.geometry.specs.declared.bbox.WorldBBox.{WorldBBox}
use Rattle.geometry.specs.declared.bbox.Bounds.{Bounds}
use Rattle.grid.specs.declared.Grid.{Grid}
use Rattle.geometry.specs.Bbox.{boxed}
use Rattle.records.specs.declared.PreparedReference.{PreparedReference}
use Rattle.records.specs.Format.{max_grid_side}
use Rattle.abstract_sheet.specs.Sheet.{Sheet}
use Rattle.exact.specs.Placement.{VectorWithin, IsVector, vector_of}
use Rattle.exact.specs.Member.{IsGrid, grid_of}
use Rattle.exact.specs.Box.{BoxWithin, IsBox, box_of}
use Rattle.exact.proofs.Boxes.Reading.{grid_of_is}
use Rattle.paths.specs.Square.{SquareVector, SquareBox, SquareBounds, SquareGrid, Square, FewMembers}

pub vector_is : (v : DVec2) → SquareVector v → IsVector v (vector_of v)
vector_is v h = record { x = h.x.whole; y = h.y.whole }

pub vector_within : (v : DVec2) → SquareVector v → VectorWithin (2 ^ 31) (vector_of v)
vector_within v h = record { x = h.x.within; y = h.y.within }

pub box_is : (b : WorldBBox) → SquareBox b → IsBox b (box_of b)
box_is b h = record { min_x = h.min_x.whole; min_y = h.min_y.whole; max_x = h.max_x.whole; max_y = h.max_y.whole }

pub box_within : (b : WorldBBox) → SquareBox b → BoxWithin (2 ^ 31) (box_of b)
box_within b h = record { min_x = h.min_x.within; min_y = h.min_y.within; max_x = h.max_x.within; max_y = h.max_y.within }

-- a box that is there
pub bounds_square : (o : Bounds) (b : WorldBBox) → o ≡ boxed b → SquareBounds o → SquareBox b
unfolding boxed
bounds_square o b e h = subst SquareBounds e h

grid_is : (g : Grid) → (g.columns ≤ max_grid_side) × (g.rows ≤ max_grid_side) → SquareGrid g → IsGrid g (grid_of g)
grid_is g few h =
    grid_of_is g few.0 few.1 (vector_is g.origin h.origin) (vector_is g.spacing_x h.spacing_x) (vector_is g.spacing_y h.spacing_y) h.magnification h.rotation
    (record { origin = vector_within g.origin h.origin; spacing_x = vector_within g.spacing_x h.spacing_x; spacing_y = vector_within g.spacing_y h.spacing_y })

pub reference_grid : (S : Sheet) → FewMembers S → Square S → (n : ℕ) (r : PreparedReference) → S.reference n ≡ some r → IsGrid r.grid (grid_of r.grid)
reference_grid S few sq n r e = grid_is r.grid (few n r e) (sq.grid n r e)
