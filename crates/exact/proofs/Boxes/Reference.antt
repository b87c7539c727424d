-- A reference's box, the join of its four corner members' boxes, is the least box that encloses every member's box. Assumes nothing.
-- The one idea: a member's box moves linearly with its column and its row, and what bounds a linear function at both ends bounds it between.
use mathlib.Core.Path.{◌≡◌, ap, ◌∙◌}
use mathlib.Core.Bool.{Bool, true, false, not, cond}
use Prim.Native.Nat.{ℕ, ◌+◌, ◌-◌, ◌*◌, ◌^◌, ◌≤◌, ◌<◌}
use native.Mathlib.Nat.{mul-le-mul_right, mul-le-mul_left, add-mul}
use native.Mathlib.Omega.{arith}
use lib.Dec.{T, leb, leb→le, nleb→lt}
use Rattle.exact.specs.Integer.{Integer, integer, ◌⊕◌, ◌⊗◌, negate, negate_if, ◌≐◌, ◌≼◌}
use Rattle.exact.specs.Placement.{Vector, orient, ExactPlacement, ◌∘◌, member_reach}
use Rattle.exact.specs.Member.{IntegerGrid, offset_orientation, member_orientation, member_placement, GridWithin}
use Rattle.exact.specs.Box.{IntegerBox, Proper, Inside, BoxWithin, swap_if, lower_end, upper_end, place, join, member_box, reference_box, IsReferenceBox}
use Rattle.exact.proofs.Placements.Member.{member_within}
use Rattle.exact.proofs.Boxes.Relations.{encloses_self, encloses_trans, join_left, join_right, join_least, join_proper, join_within, box_widen}
use Rattle.exact.proofs.Boxes.Place.{place_encloses, place_proper, place_within, place_compose}

-- ---- a linear function of one variable, v + a c
module _ (a w v : Integer) (c C : ℕ) (h : c ≤ C) where
  lower_between : w ≼ v ⊕ a ⊗ integer 0 → w ≼ v ⊕ a ⊗ integer C → w ≼ v ⊕ a ⊗ integer c
  lower_between p q = by_sign (leb a.neg a.pos) (leb→le a.neg a.pos) (nleb→lt a.neg a.pos)
    where
      by_sign : (b : Bool) → (T b → a.neg ≤ a.pos) → (T (not b) → a.pos < a.neg) → w ≼ v ⊕ a ⊗ integer c
      by_sign true f g = let k : a.neg * c ≤ a.pos * c = mul-le-mul_right c (f tt) in omega arith
      by_sign false f g =
          let k : a.pos < a.neg = g tt in
          let d = a.neg - a.pos in
          let e : a.neg ≡ a.pos + d = omega arith in
          let m : d * c ≤ d * C = mul-le-mul_left d h in
          let at_c : a.neg * c ≡ a.pos * c + d * c = ap (λ (x : ℕ). x * c) e ∙ add-mul a.pos d c in
          let at-C : a.neg * C ≡ a.pos * C + d * C = ap (λ (x : ℕ). x * C) e ∙ add-mul a.pos d C in
          omega arith

-- ---- of two variables, L + t c r, where t is linear
abbrev Linear : (ℕ → ℕ → Integer) → Integer → Integer → Integer → Type 0
Linear t o a b = (c r : ℕ) → t c r ≐ o ⊕ (a ⊗ integer c ⊕ b ⊗ integer r)

lower_corners : (t : ℕ → ℕ → Integer) (o a b : Integer) → Linear t o a b → (w L : Integer) (c C r R : ℕ) → c ≤ C → r ≤ R
    → w ≼ L ⊕ t 0 0 → w ≼ L ⊕ t 0 R → w ≼ L ⊕ t C 0 → w ≼ L ⊕ t C R → w ≼ L ⊕ t c r
lower_corners t o a b lin w L c C r R c≤ r≤ p q s u =
    let e00 = lin 0 0 in
    let e0R = lin 0 R in
    let eC0 = lin C 0 in
    let eCR = lin C R in
    let ecr = lin c r in
    let bottom = lower_between a w (L ⊕ o ⊕ b ⊗ integer 0) c C c≤ (omega arith) (omega arith) in
    let top = lower_between a w (L ⊕ o ⊕ b ⊗ integer R) c C c≤ (omega arith) (omega arith) in
    let all = lower_between b w (L ⊕ o ⊕ a ⊗ integer c) r R r≤ (omega arith) (omega arith) in
    omega arith

upper_corners : (t : ℕ → ℕ → Integer) (o a b : Integer) → Linear t o a b → (w L : Integer) (c C r R : ℕ) → c ≤ C → r ≤ R
    → L ⊕ t 0 0 ≼ w → L ⊕ t 0 R ≼ w → L ⊕ t C 0 ≼ w → L ⊕ t C R ≼ w → L ⊕ t c r ≼ w
upper_corners t o a b lin w L c C r R c≤ r≤ p q s u =
    let below = lower_corners (λ i j. negate (t i j)) (negate o) (negate a) (negate b) (λ i j. let e = lin i j in omega arith) in
    let h : negate w ≼ negate L ⊕ negate (t c r) = below (negate w) (negate L) c C r R c≤ r≤ (omega arith) (omega arith) (omega arith) (omega arith) in
    omega arith

-- ---- a member's translation is linear in its column and its row
coordinate_linear : (s n : Bool) (a b c d : Integer) (k l : ℕ)
    → negate_if n (cond s (b ⊗ integer k ⊕ d ⊗ integer l) (a ⊗ integer k ⊕ c ⊗ integer l))
    ≐ negate_if n (cond s b a) ⊗ integer k ⊕ negate_if n (cond s d c) ⊗ integer l
coordinate_linear false false a b c d k l = omega arith
coordinate_linear false true a b c d k l = omega arith
coordinate_linear true false a b c d k l = omega arith
coordinate_linear true true a b c d k l = omega arith

-- the two coordinates of a member's translation
abbrev across_x : IntegerGrid → ℕ → ℕ → Integer
across_x g c r = (member_placement g c r).translation.x

abbrev across_y : IntegerGrid → ℕ → ℕ → Integer
across_y g c r = (member_placement g c r).translation.y

module _ (g : IntegerGrid) where
  abbrev turned_x : Vector
  turned_x = orient (offset_orientation g) g.spacing_x

  abbrev turned_y : Vector
  turned_y = orient (offset_orientation g) g.spacing_y

  linear_x : Linear (across_x g) g.origin.x turned_x.x turned_y.x
  linear_x c r =
      let o = offset_orientation g in
      let u = g.spacing_x in
      let v = g.spacing_y in
      let e = coordinate_linear o.swapped o.negate_x u.x u.y v.x v.y c r in
      omega arith

  linear_y : Linear (across_y g) g.origin.y turned_x.y turned_y.y
  linear_y c r =
      let o = offset_orientation g in
      let u = g.spacing_x in
      let v = g.spacing_y in
      let e = coordinate_linear o.swapped o.negate_y u.y u.x v.y v.x c r in
      omega arith

-- ---- every member's box lies in the reference's box
module _ (g : IntegerGrid) (columns rows : ℕ) (b : IntegerBox) where
  abbrev EnclosesCorners : IntegerBox → Type 0
  EnclosesCorners c =
      Inside (member_box g 0 0 b) c × Inside (member_box g 0 (rows - 1) b) c
      × Inside (member_box g (columns - 1) 0 b) c × Inside (member_box g (columns - 1) (rows - 1) b) c

  corners_enclosed : (c : IntegerBox) → Inside (reference_box g columns rows b) c → EnclosesCorners c
  corners_enclosed c h =
      let second = member_box g 0 (rows - 1) b in
      let third = member_box g (columns - 1) 0 b in
      let fourth = member_box g (columns - 1) (rows - 1) b in
      let one = member_box g 0 0 b in
      let two = join one second in
      let three = join two third in
      let h3 = encloses_trans three (join three fourth) c (join_left three fourth) h in
      let h2 = encloses_trans two three c (join_left two third) h3 in (
        encloses_trans one two c (join_left one second) h2,
        encloses_trans second two c (join_right one second) h2,
        encloses_trans third three c (join_right two third) h3,
        encloses_trans fourth (join three fourth) c (join_right three fourth) h,
      )

  corners_least : (c : IntegerBox) → EnclosesCorners c → Inside (reference_box g columns rows b) c
  corners_least c h = join_least _ _ c (join_least _ _ c (join_least _ _ c h.0 h.1) h.2) h.3

  pub reference_box_encloses_member : (c r : ℕ) → c < columns → r < rows → Inside (member_box g c r b) (reference_box g columns rows b)
  reference_box_encloses_member c r c< r< =
      let C = columns - 1 in
      let R = rows - 1 in
      let box = reference_box g columns rows b in
      let k = corners_enclosed box (encloses_self box) in
      let c≤ : c ≤ C = omega arith in
      let r≤ : r ≤ R = omega arith in
      let o = member_orientation g in
      let d = swap_if o.swapped b in
      let u = turned_x g in
      let v = turned_y g in
      record {
        left = lower_corners (across_x g) g.origin.x u.x v.x (linear_x g) box.min_x
            (lower_end o.negate_x d.min_x d.max_x) c C r R c≤ r≤ k.0.left k.1.left k.2.left k.3.left;
        right = upper_corners (across_x g) g.origin.x u.x v.x (linear_x g) box.max_x
            (upper_end o.negate_x d.min_x d.max_x) c C r R c≤ r≤ k.0.right k.1.right k.2.right k.3.right;
        bottom = lower_corners (across_y g) g.origin.y u.y v.y (linear_y g) box.min_y
            (lower_end o.negate_y d.min_y d.max_y) c C r R c≤ r≤ k.0.bottom k.1.bottom k.2.bottom k.3.bottom;
        top = upper_corners (across_y g) g.origin.y u.y v.y (linear_y g) box.max_y
            (upper_end o.negate_y d.min_y d.max_y) c C r R c≤ r≤ k.0.top k.1.top k.2.top k.3.top;
      }

  -- and no smaller box does
  pub reference_box_least : 0 < columns → 0 < rows → IsReferenceBox g columns rows b (reference_box g columns rows b)
  reference_box_least columns> rows> = record {
    encloses = reference_box_encloses_member;
    least = λ c f. corners_least c (
      f 0 0 columns> rows>,
      f 0 (rows - 1) columns> (omega arith),
      f (columns - 1) 0 (omega arith) rows>,
      f (columns - 1) (rows - 1) (omega arith) (omega arith),
    );
  }

  pub reference_box_proper : Proper b → Proper (reference_box g columns rows b)
  reference_box_proper h = join_proper _ _ (join_proper _ _ (join_proper _ _ (place_proper (member_placement g 0 0) b h)))

  -- the box of a reference of a square sheet stays within 2 ^ 48
  pub reference_box_within : columns ≤ 32767 → rows ≤ 32767 → GridWithin g → BoxWithin (2 ^ 31) b
      → BoxWithin (2 ^ 48) (reference_box g columns rows b)
  reference_box_within columns≤ rows≤ w h =
      let C = columns - 1 in
      let R = rows - 1 in
      join_within (2 ^ 48) _ _
      (join_within (2 ^ 48) _ _
      (join_within (2 ^ 48) _ _ (one 0 0 (omega arith) (omega arith)) (one 0 R (omega arith) (omega arith)))
      (one C 0 (omega arith) (omega arith)))
      (one C R (omega arith) (omega arith))
    where
      one : (c r : ℕ) → c ≤ 32767 → r ≤ 32767 → BoxWithin (2 ^ 48) (member_box g c r b)
      one c r c≤ r≤ =
          box_widen (2 ^ 31 + member_reach) (2 ^ 48) (member_box g c r b) (omega arith)
          (place_within (member_placement g c r) b (2 ^ 31) member_reach h (member_within g c r c≤ r≤ w))

  -- the same under a parent's placement
  pub placed_reference_box_encloses_member : (T : ExactPlacement) (c r : ℕ) → Proper b → c < columns → r < rows
      → Inside (place (T ∘ member_placement g c r) b) (place T (reference_box g columns rows b))
  placed_reference_box_encloses_member T c r h c< r< =
      encloses_trans (place (T ∘ member_placement g c r) b) (place T (member_box g c r b)) (place T (reference_box g columns rows b))
      (place_compose T (member_placement g c r) b h)
      (place_encloses T (member_box g c r b) (reference_box g columns rows b) (reference_box_encloses_member c r c< r<))
