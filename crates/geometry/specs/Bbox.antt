-- Boxes in the world: drawable.rs (`WorldBBox`) and bevy_scene.rs (`transform_bbox`, `point_in_bbox`).
-- A test `a >= b` of the Rust is `le b a` here: the value at the left of the Rust's line is the larger one.
-- Definitions only. Assumes nothing.
use Rattle.std.specs.Prelude.{Bool, true, false, not, cond, ◌&&◌, ◌||◌, Float, List, [], ◌∷◌, fold, Option, Some, None}
use Rattle.std.specs.Float.{inf}
use Rattle.std.specs.Float.Ieee.{lt, le, eq}
use Rattle.floats.specs.Order.{min_num, max_num}
use Rattle.geometry.specs.declared.placement.DVec2.{DVec2}
use Rattle.geometry.specs.declared.placement.Placement.{Placement}
use Rattle.geometry.specs.declared.bbox.WorldBBox.{WorldBBox}
use Rattle.geometry.specs.declared.bbox.Bounds.{Bounds}
use Rattle.geometry.specs.declared.bbox.Bounds.TheVariants.{Absent, Box}
use Rattle.geometry.specs.Placement.{vec, transform_point2}

-- min x, min y, max x, max y
abbrev pub bbox : Float → Float → Float → Float → WorldBBox
bbox a b c d = record { min_x = a; min_y = b; max_x = c; max_y = d }

-- ---- a box that may be absent

unfoldable pub boxed : WorldBBox → Bounds
boxed b = Box b.min_x b.min_y b.max_x b.max_y

abbrev pub bounds_of : Option WorldBBox → Bounds
bounds_of None = Absent
bounds_of (Some b) = boxed b

abbrev pub bbox_of : Bounds → Option WorldBBox
bbox_of Absent = None
bbox_of (Box a b c d) = Some (bbox a b c d)

-- ---- drawable.rs

unfoldable pub overlaps : WorldBBox → WorldBBox → Bool
overlaps a b =
    le b.min_x a.max_x && le a.min_x b.max_x && le b.min_y a.max_y && le a.min_y b.max_y

-- "`merge` and f32 `max` pass over a NaN, and of equal values `merge` takes the first, sign of zero included."
unfoldable pub merge : WorldBBox → WorldBBox → WorldBBox
merge a b =
    bbox (min_num a.min_x b.min_x) (min_num a.min_y b.min_y) (max_num a.max_x b.max_x)
    (max_num a.max_y b.max_y)

-- ---- bevy_scene.rs

-- "The pairwise least in `transform_bbox` is a if a < b, else b (greatest alike)."
unfoldable pub least : Float → Float → Float
least a b = cond (lt a b) a b

unfoldable pub greatest : Float → Float → Float
greatest a b = cond (lt b a) a b

-- one turn of the loop of `transform_bbox`
unfoldable pub include : WorldBBox → DVec2 → WorldBBox
include b p =
    bbox (least b.min_x p.x) (least b.min_y p.y) (greatest b.max_x p.x) (greatest b.max_y p.y)

-- what the loop starts from
abbrev pub nothing : WorldBBox
nothing = bbox (inf false) (inf false) (inf true) (inf true)

-- the corners, in its order
abbrev pub corners : WorldBBox → List DVec2
corners b = vec b.min_x b.min_y ∷ vec b.max_x b.min_y ∷ vec b.max_x b.max_y ∷ vec b.min_x b.max_y ∷ []

unfoldable pub transform_bbox : Placement → WorldBBox → WorldBBox
transform_bbox t b = fold (λ placed corner. include placed (transform_point2 t corner)) nothing (corners b)

unfoldable pub point_in_bbox : DVec2 → WorldBBox → Bool
point_in_bbox p b = le b.min_x p.x && le p.x b.max_x && le b.min_y p.y && le p.y b.max_y

-- `source_is_degenerate` of `visit_reference`
unfoldable pub source_is_degenerate : WorldBBox → Bool
source_is_degenerate b = eq b.min_x b.max_x || eq b.min_y b.max_y

-- `cell.bbox.map(|bbox| transform_bbox(transform, bbox))`
abbrev pub transform_bounds : Placement → Bounds → Bounds
transform_bounds p Absent = Absent
transform_bounds p (Box a b c d) = boxed (transform_bbox p (bbox a b c d))

-- `world_bbox.is_some_and(|bbox| !bbox.overlaps(self.options.visible))`
abbrev pub is_outside : Bounds → WorldBBox → Bool
is_outside Absent view = false
is_outside (Box a b c d) view = not (overlaps (bbox a b c d) view)
