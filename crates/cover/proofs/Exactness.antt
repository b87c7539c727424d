-- Where exactness meets the rules: placed boxes, moved points and members of a square sheet, and sizes that are measured under one pixel.
-- A placement of level n has n members between the root and itself. Assumes nothing.
use mathlib.Core.Bool.{Bool, false}
use Prim.Native.Nat.{ℕ, suc, ◌+◌, ◌^◌, ◌≤◌, ◌<◌}
use native.Mathlib.Omega.{arith}
use lib.Dec.{T as Yes}
use lib.Ieee.{Float}
use Rattle.geometry.specs.declared.placement.DVec2.{DVec2}
use Rattle.geometry.specs.declared.placement.Placement.{Placement}
use Rattle.geometry.specs.declared.bbox.WorldBBox.{WorldBBox}
use Rattle.grid.specs.declared.Grid.{Grid}
use Rattle.geometry.specs.Placement.{transform_point2, ◌·◌}
use Rattle.geometry.specs.Bbox.{transform_bbox}
use Rattle.grid.specs.Grid.{grid_member_transform, corners_bbox}
use Rattle.screen.specs.Screen.{screen_size, reference_screen_size, is_subpixel}
use Rattle.exact.specs.Placement.{ExactPlacement, move, ◌∘◌, IsVector, IsPlacement, vector_of, AtLevel, deepest_level}
use Rattle.exact.specs.Member.{member_placement, IsGrid, grid_of}
use Rattle.exact.specs.Box.{SidesWithin, IsBox, box_of, place, reference_box}
use Rattle.exact.specs.Screen.{ZoomWithin}
use Rattle.exact.proofs.Integers.Bounds.{vector_widen}
use Rattle.exact.proofs.Placements.Levels.{level_point_exact, level_member_exact}
use Rattle.exact.proofs.Boxes.Relations.{box_widen, sides_widen}
use Rattle.exact.proofs.Boxes.Place.{place_sides}
use Rattle.exact.proofs.Boxes.Transform.{transform_bbox_exact}
use Rattle.exact.proofs.Boxes.ReferenceRounded.{placed_corners_bbox_exact}
use Rattle.exact.proofs.Screen.Sizes.{subpixel_under_one_pixel}
use Rattle.paths.specs.Square.{SquareVector, SquareBox}
use Rattle.paths.proofs.Square.{vector_is, vector_within, box_is, box_within}
use Rattle.cover.specs.Covered.{UnderOnePixel}

-- a box of a square sheet keeps its sides when it is placed
sides : (T : ExactPlacement) (b : WorldBBox) → SquareBox b → SidesWithin (2 ^ 53) (place T (box_of b))
sides T b h = sides_widen (2 ^ 31 + 2 ^ 31) (2 ^ 53) (place T (box_of b)) (omega arith) (place_sides T (box_of b) (2 ^ 31) (box_within b h))

module _ (n : ℕ) (n≤ : n ≤ deepest_level) (p : Placement) (T : ExactPlacement) (i : IsPlacement p T) (level : AtLevel n T) where
  pub placed_box : (b : WorldBBox) → SquareBox b → IsBox (transform_bbox p b) (place T (box_of b))
  placed_box b h = transform_bbox_exact n n≤ p T b (box_of b) i level (box_is b h) h.proper (box_widen (2 ^ 31) (2 ^ 48) (box_of b) (omega arith) (box_within b h))

  pub moved_point : (v : DVec2) → SquareVector v → IsVector (transform_point2 p v) (move T (vector_of v))
  moved_point v h = level_point_exact n n≤ p T i level v (vector_of v) (vector_is v h) (vector_widen (2 ^ 31) (2 ^ 48) (vector_of v) (omega arith) (vector_within v h))

  module _ (g : Grid) (is : IsGrid g (grid_of g)) where
    pub member_placed : (column row : ℕ) → column < g.columns → row < g.rows
        → IsPlacement (p · grid_member_transform g column row) (T ∘ member_placement (grid_of g) column row) × AtLevel (suc n) (T ∘ member_placement (grid_of g) column row)
    member_placed column row c< r< =
        let c≤ : column ≤ 32767 = omega (arith, is.columns) in
        let r≤ : row ≤ 32767 = omega (arith, is.rows) in
        level_member_exact n n≤ p T i level g (grid_of g) column row is c≤ r≤

    pub corners_placed : (b : WorldBBox) → SquareBox b → IsBox (transform_bbox p (corners_bbox g b)) (place T (reference_box (grid_of g) g.columns g.rows (box_of b)))
    corners_placed b s = placed_corners_bbox_exact g (grid_of g) is b (box_of b) (box_is b s) s.proper (box_within b s) n n≤ p T i level

-- ---- what the rules skip: on a square sheet no size is infinite, for zoom up to 2^64

module _ (zoom : Float) (z : ZoomWithin zoom) (T : ExactPlacement) (b : WorldBBox) (h : SquareBox b) (box : WorldBBox) (i : IsBox box (place T (box_of b))) where
  pub member_under_one_pixel : (degenerate : Bool) → Yes (is_subpixel (reference_screen_size box zoom degenerate)) → UnderOnePixel (reference_screen_size box zoom degenerate)
  member_under_one_pixel degenerate = subpixel_under_one_pixel zoom degenerate box (place T (box_of b)) z i (sides T b h)

  pub batch_under_one_pixel : Yes (is_subpixel (screen_size box zoom)) → UnderOnePixel (screen_size box zoom)
  unfolding reference_screen_size
  batch_under_one_pixel = subpixel_under_one_pixel zoom false box (place T (box_of b)) z i (sides T b h)
