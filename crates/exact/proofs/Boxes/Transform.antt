-- `transform_bbox` of a box of integers is the placed box, down to the deepest level: its loop joins the four corners, placed.
-- Assumes nothing.
use Prim.Native.Nat.{ℕ, ◌^◌, ◌≤◌}
use lib.Ieee.{Float}
use Rattle.geometry.specs.declared.placement.DVec2.{DVec2}
use Rattle.geometry.specs.declared.placement.Placement.{Placement}
use Rattle.geometry.specs.declared.bbox.WorldBBox.{WorldBBox}
use Rattle.geometry.specs.Placement.{vec, transform_point2}
use Rattle.geometry.specs.Bbox.{include, nothing, transform_bbox}
use Rattle.exact.specs.Integer.{Within}
use Rattle.exact.specs.IsInteger.{IsInteger}
use Rattle.exact.specs.Placement.{Vector, ExactPlacement, move, IsVector, IsPlacement, AtLevel, deepest_level}
use Rattle.exact.specs.Box.{IntegerBox, point_box, SameBox, Proper, Holds, Inside, BoxWithin, IsBox, place, join}
use Rattle.exact.proofs.Floats.Rounding.{integer_same}
use Rattle.exact.proofs.Floats.Extremes.{least_integer, greatest_integer, least_first, greatest_first}
use Rattle.exact.proofs.Placements.Levels.{level_point_exact}
use Rattle.exact.proofs.Boxes.Relations.{encloses_trans, encloses_both, holds_point, point_held, join_left, join_right, join_least}
use Rattle.exact.proofs.Boxes.Place.{place_holds, corners_enclose}
use Rattle.exact.proofs.Boxes.Corners.{lower_left, lower_right, upper_right, upper_left, lower_left_held, lower_right_held, upper_right_held, upper_left_held}

box_same : (b : WorldBBox) (y z : IntegerBox) → SameBox y z → IsBox b y → IsBox b z
box_same b y z e h = record {
  min_x = integer_same b.min_x y.min_x z.min_x e.min_x h.min_x;
  min_y = integer_same b.min_y y.min_y z.min_y e.min_y h.min_y;
  max_x = integer_same b.max_x y.max_x z.max_x e.max_x h.max_x;
  max_y = integer_same b.max_y y.max_y z.max_y e.max_y h.max_y;
}

-- ---- the loop
include_first : (p : DVec2) (v : Vector) → IsVector p v → IsBox (include nothing p) (point_box v)
unfolding include
include_first p v h = record {
  min_x = least_first p.x v.x h.x;
  min_y = least_first p.y v.y h.y;
  max_x = greatest_first p.x v.x h.x;
  max_y = greatest_first p.y v.y h.y;
}

include_exact : (b : WorldBBox) (z : IntegerBox) (p : DVec2) (v : Vector) → IsBox b z → IsVector p v
    → IsBox (include b p) (join z (point_box v))
unfolding include
include_exact b z p v h k = record {
  min_x = least_integer b.min_x p.x z.min_x v.x h.min_x k.x;
  min_y = least_integer b.min_y p.y z.min_y v.y h.min_y k.y;
  max_x = greatest_integer b.max_x p.x z.max_x v.x h.max_x k.x;
  max_y = greatest_integer b.max_y p.y z.max_y v.y h.max_y k.y;
}

abbrev corners_joined : ExactPlacement → IntegerBox → IntegerBox
corners_joined T b =
    let below = join (point_box (move T (lower_left b))) (point_box (move T (lower_right b))) in
    join (join below (point_box (move T (upper_right b)))) (point_box (move T (upper_left b)))

corners_placed : (T : ExactPlacement) (b : IntegerBox) → Proper b → SameBox (corners_joined T b) (place T b)
corners_placed T b h =
    let one = point_box (move T (lower_left b)) in
    let second = point_box (move T (lower_right b)) in
    let third = point_box (move T (upper_right b)) in
    let fourth = point_box (move T (upper_left b)) in
    let two = join one second in
    let three = join two third in
    let all = corners_joined T b in
    encloses_both all (place T b)
    (join_least three fourth (place T b)
    (join_least two third (place T b)
    (join_least one second (place T b) (into (lower_left b) (lower_left_held b h)) (into (lower_right b) (lower_right_held b h)))
    (into (upper_right b) (upper_right_held b h)))
    (into (upper_left b) (upper_left_held b h)))
    (corners_enclose T b all
    (point_held all (move T (lower_left b)) (encloses_trans one two all (join_left one second) (encloses_trans two three all (join_left two third) (join_left three fourth))))
    (point_held all (move T (upper_right b)) (encloses_trans third three all (join_right two third) (join_left three fourth))))
  where
    into : (v : Vector) → Holds b v → Inside (point_box (move T v)) (place T b)
    into v k = holds_point (place T b) (move T v) (place_holds T b v k)

pub transform_bbox_exact : (n : ℕ) → n ≤ deepest_level → (p : Placement) (T : ExactPlacement) (b : WorldBBox) (z : IntegerBox)
    → IsPlacement p T → AtLevel n T → IsBox b z → Proper z → BoxWithin (2 ^ 48) z
    → IsBox (transform_bbox p b) (place T z)
unfolding transform_bbox
transform_bbox_exact n n≤ p T b z h l q proper w =
    box_same (transform_bbox p b) (corners_joined T z) (place T z) (corners_placed T z proper)
    (include_exact _ _ _ (move T (upper_left z))
    (include_exact _ _ _ (move T (upper_right z))
    (include_exact _ _ _ (move T (lower_right z))
    (include_first _ (move T (lower_left z))
    (corner b.min_x b.min_y (lower_left z) q.min_x q.min_y w.min_x w.min_y))
    (corner b.max_x b.min_y (lower_right z) q.max_x q.min_y w.max_x w.min_y))
    (corner b.max_x b.max_y (upper_right z) q.max_x q.max_y w.max_x w.max_y))
    (corner b.min_x b.max_y (upper_left z) q.min_x q.max_y w.min_x w.max_y))
  where
    corner : (x y : Float) (v : Vector) → IsInteger x v.x → IsInteger y v.y → Within (2 ^ 48) v.x → Within (2 ^ 48) v.y
        → IsVector (transform_point2 p (vec x y)) (move T v)
    corner x y v i j k m = level_point_exact n n≤ p T h l (vec x y) v (record { x = i; y = j }) (record { x = k; y = m })
