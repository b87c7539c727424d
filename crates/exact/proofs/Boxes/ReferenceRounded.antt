-- `reference_bbox` of a square sheet gives the reference's exact box: `corners_bbox_exact`, where `reference_bbox_present`. Assumes nothing.
use mathlib.Core.Path.{◌≡◌, ap, ◌∙◌}
use mathlib.Core.Bool.{Bool, false, cond, ◌||◌}
use Prim.Native.Nat.{ℕ, ◌-◌, ◌*◌, ◌^◌, ◌≤◌, ◌<◌}
use native.Mathlib.Omega.{arith}
use lib.Dec.{T, eqb, eqb→eq, not_T}
use lib.Ieee.Bits.{is_false}
use Rattle.geometry.specs.declared.placement.Placement.{Placement}
use Rattle.geometry.specs.declared.bbox.WorldBBox.{WorldBBox}
use Rattle.geometry.specs.declared.bbox.Bounds.TheVariants.{Absent}
use Rattle.grid.specs.declared.Grid.{Grid}
use Rattle.geometry.specs.Bbox.{boxed, merge, transform_bbox}
use Rattle.grid.specs.Grid.{grid_member_transform, member_bbox, corners_bbox, reference_bbox}
use Rattle.exact.specs.Placement.{ExactPlacement, IsPlacement, member_reach, AtLevel, deepest_level}
use Rattle.exact.specs.Member.{IntegerGrid, member_placement, IsGrid}
use Rattle.exact.specs.Box.{IntegerBox, Proper, BoxWithin, IsBox, place, join, member_box, reference_box}
use Rattle.exact.proofs.Integers.Bounds.{vector_widen}
use Rattle.exact.proofs.Floats.Extremes.{min_num_integer, max_num_integer}
use Rattle.exact.proofs.Placements.Member.{member_within, member_transform_exact}
use Rattle.exact.proofs.Boxes.Relations.{box_widen}
use Rattle.exact.proofs.Boxes.Reference.{reference_box_proper, reference_box_within}
use Rattle.exact.proofs.Boxes.Transform.{transform_bbox_exact}

merge_exact : (a b : WorldBBox) (y z : IntegerBox) → IsBox a y → IsBox b z → IsBox (merge a b) (join y z)
unfolding merge
merge_exact a b y z p q = record {
  min_x = min_num_integer a.min_x b.min_x y.min_x z.min_x p.min_x q.min_x;
  min_y = min_num_integer a.min_y b.min_y y.min_y z.min_y p.min_y q.min_y;
  max_x = max_num_integer a.max_x b.max_x y.max_x z.max_x p.max_x q.max_x;
  max_y = max_num_integer a.max_y b.max_y y.max_y z.max_y p.max_y q.max_y;
}

module _ (g : Grid) (z : IntegerGrid) (h : IsGrid g z) (b : WorldBBox) (y : IntegerBox) (q : IsBox b y) (proper : Proper y) (w : BoxWithin (2 ^ 31) y) where
  member_box_exact : (c r : ℕ) → c ≤ 32767 → r ≤ 32767 → IsBox (member_bbox g c r b) (member_box z c r y)
  unfolding member_bbox
  member_box_exact c r c≤ r≤ =
      transform_bbox_exact 1 (omega arith) (grid_member_transform g c r) (member_placement z c r) b y (member_transform_exact g z c r h c≤ r≤)
      (vector_widen member_reach (1 * member_reach) (member_placement z c r).translation (omega arith)
      (member_within z c r c≤ r≤ h.within))
      q proper (box_widen (2 ^ 31) (2 ^ 48) y (omega arith) w)

  pub corners_bbox_exact : IsBox (corners_bbox g b) (reference_box z g.columns g.rows y)
  unfolding corners_bbox
  corners_bbox_exact =
      let C = g.columns - 1 in
      let R = g.rows - 1 in
      let c≤ = h.columns in
      let r≤ = h.rows in
      let first : 0 ≤ 32767 = omega arith in
      let C≤ : C ≤ 32767 = omega arith in
      let R≤ : R ≤ 32767 = omega arith in
      merge_exact _ _ _ _ (merge_exact _ _ _ _ (merge_exact _ _ _ _ (member_box_exact 0 0 first first) (member_box_exact 0 R first R≤))
      (member_box_exact C 0 C≤ first)) (member_box_exact C R C≤ R≤)

  -- the same, placed by a parent of any level
  pub placed_corners_bbox_exact : (n : ℕ) → n ≤ deepest_level → (p : Placement) (T : ExactPlacement) → IsPlacement p T → AtLevel n T
      → IsBox (transform_bbox p (corners_bbox g b)) (place T (reference_box z g.columns g.rows y))
  placed_corners_bbox_exact n n≤ p T i l =
      transform_bbox_exact n n≤ p T (corners_bbox g b) (reference_box z g.columns g.rows y) i l corners_bbox_exact
      (reference_box_proper z g.columns g.rows y proper)
      (reference_box_within z g.columns g.rows y h.columns h.rows h.within w)

not_zero : (n : ℕ) → 0 < n → eqb n 0 ≡ false
not_zero n h = is_false (eqb n 0) (not_T (eqb n 0) (λ t. let e : n ≡ 0 = eqb→eq n 0 t in let z : ⊥ = omega arith in z))

-- where there are columns and rows, the answer is a box
pub reference_bbox_present : (g : Grid) (b : WorldBBox) → 0 < g.columns → 0 < g.rows → reference_bbox g b ≡ boxed (corners_bbox g b)
unfolding reference_bbox
reference_bbox_present g b c> r> =
    ap (λ (x : Bool). cond (x || eqb g.rows 0) Absent (boxed (corners_bbox g b))) (not_zero g.columns c>) ∙ ap
    (λ (x : Bool). cond x Absent (boxed (corners_bbox g b))) (not_zero g.rows r>)
