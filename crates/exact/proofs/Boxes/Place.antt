-- The placed box is the least box around a box at its exact placement; placing keeps enclosure, order of the edges and sides.
-- Assumes nothing.
use mathlib.Core.Bool.{Bool, true, false, cond}
use Prim.Native.Nat.{ℕ, ◌+◌}
use Rattle.exact.specs.Placement.{Vector, VectorWithin, ExactPlacement, move, ◌∘◌}
use Rattle.exact.specs.Box.{IntegerBox, Proper, Holds, Inside, BoxWithin, SidesWithin, swap_if, place, IsPlacedBox}
use Rattle.exact.proofs.Integers.Bounds.{within_sum}
use Rattle.exact.proofs.Placements.Orientation.{move_compose}
use Rattle.exact.proofs.Boxes.Relations.{holds_same}
use Rattle.exact.proofs.Boxes.Corners.{lower_left, upper_right, lower_left_held, upper_right_held}
use Rattle.exact.proofs.Boxes.Ends.{lower_holds, upper_holds, lower_encloses, upper_encloses, lower_least, upper_least, ends_ordered, ends_apart, lower_within, upper_within}

-- ---- x and y exchanged
swap_holds : (s : Bool) (b : IntegerBox) (v : Vector) → Holds b v
    → Holds (swap_if s b) (record { x = cond s v.y v.x; y = cond s v.x v.y })
swap_holds false b v h = h
swap_holds true b v h = record { left = h.bottom; right = h.top; bottom = h.left; top = h.right }

swap_encloses : (s : Bool) (a b : IntegerBox) → Inside a b → Inside (swap_if s a) (swap_if s b)
swap_encloses false a b h = h
swap_encloses true a b h = record { left = h.bottom; right = h.top; bottom = h.left; top = h.right }

swap_proper : (s : Bool) (b : IntegerBox) → Proper b → Proper (swap_if s b)
swap_proper false b h = h
swap_proper true b h = record { x = h.y; y = h.x }

swap_within : (B : ℕ) (s : Bool) (b : IntegerBox) → BoxWithin B b → BoxWithin B (swap_if s b)
swap_within B false b h = h
swap_within B true b h = record { min_x = h.min_y; min_y = h.min_x; max_x = h.max_y; max_y = h.max_x }

-- ---- a placed box
module _ (T : ExactPlacement) (b : IntegerBox) where
  -- every point of a box goes into the placed box
  pub place_holds : (v : Vector) → Holds b v → Holds (place T b) (move T v)
  place_holds v h =
      let o = T.orientation in
      let t = T.translation in
      let c = swap_if o.swapped b in
      let k = swap_holds o.swapped b v h in
      record {
        left = lower_holds c.min_x c.max_x t.x o.negate_x _ k.left k.right;
        right = upper_holds c.min_x c.max_x t.x o.negate_x _ k.left k.right;
        bottom = lower_holds c.min_y c.max_y t.y o.negate_y _ k.bottom k.top;
        top = upper_holds c.min_y c.max_y t.y o.negate_y _ k.bottom k.top;
      }

  -- a larger box's placed box is larger
  pub place_encloses : (a : IntegerBox) → Inside b a → Inside (place T b) (place T a)
  place_encloses a h =
      let o = T.orientation in
      let t = T.translation in
      let c = swap_if o.swapped b in
      let d = swap_if o.swapped a in
      let k = swap_encloses o.swapped b a h in
      record {
        left = lower_encloses c.min_x c.max_x t.x o.negate_x d.min_x d.max_x k.left k.right;
        right = upper_encloses c.min_x c.max_x t.x o.negate_x d.min_x d.max_x k.left k.right;
        bottom = lower_encloses c.min_y c.max_y t.y o.negate_y d.min_y d.max_y k.bottom k.top;
        top = upper_encloses c.min_y c.max_y t.y o.negate_y d.min_y d.max_y k.bottom k.top;
      }

  pub place_proper : Proper b → Proper (place T b)
  place_proper h =
      let o = T.orientation in
      let t = T.translation in
      let c = swap_if o.swapped b in
      let k = swap_proper o.swapped b h in
      record {
        x = ends_ordered c.min_x c.max_x t.x o.negate_x k.x;
        y = ends_ordered c.min_y c.max_y t.y o.negate_y k.y;
      }

  pub place_within : (B C : ℕ) → BoxWithin B b → VectorWithin C T.translation → BoxWithin (B + C) (place T b)
  place_within B C h w =
      let o = T.orientation in
      let t = T.translation in
      let c = swap_if o.swapped b in
      let k = swap_within B o.swapped b h in
      record {
        min_x = within_sum B C _ t.x (lower_within B o.negate_x c.min_x c.max_x k.min_x k.max_x) w.x;
        min_y = within_sum B C _ t.y (lower_within B o.negate_y c.min_y c.max_y k.min_y k.max_y) w.y;
        max_x = within_sum B C _ t.x (upper_within B o.negate_x c.min_x c.max_x k.min_x k.max_x) w.x;
        max_y = within_sum B C _ t.y (upper_within B o.negate_y c.min_y c.max_y k.min_y k.max_y) w.y;
      }

  -- placing keeps the sides
  pub place_sides : (B : ℕ) → BoxWithin B b → SidesWithin (B + B) (place T b)
  place_sides B h =
      let o = T.orientation in
      let t = T.translation in
      let c = swap_if o.swapped b in
      let k = swap_within B o.swapped b h in
      record {
        width = ends_apart c.min_x c.max_x t.x o.negate_x B k.min_x k.max_x;
        height = ends_apart c.min_y c.max_y t.y o.negate_y B k.min_y k.max_y;
      }

  -- whatever holds the lower left and the upper right corner, placed, encloses the placed box
  pub corners_enclose : (c : IntegerBox) → Holds c (move T (lower_left b)) → Holds c (move T (upper_right b)) → Inside (place T b) c
  corners_enclose c p q =
      let o = T.orientation in
      let t = T.translation in
      let d = swap_if o.swapped b in
      record {
        left = lower_least d.min_x d.max_x t.x o.negate_x c.min_x p.left q.left;
        right = upper_least d.min_x d.max_x t.x o.negate_x c.max_x p.right q.right;
        bottom = lower_least d.min_y d.max_y t.y o.negate_y c.min_y p.bottom q.bottom;
        top = upper_least d.min_y d.max_y t.y o.negate_y c.max_y p.top q.top;
      }

  -- the placed box is the least box around a box, placed
  pub place_least : Proper b → IsPlacedBox T b (place T b)
  place_least h = record {
    holds = place_holds;
    least = λ c f. corners_enclose c (f (lower_left b) (lower_left_held b h)) (f (upper_right b) (upper_right_held b h));
  }

-- ---- through two placements
pub place_compose : (P C : ExactPlacement) (b : IntegerBox) → Proper b → Inside (place (P ∘ C) b) (place P (place C b))
place_compose P C b h =
    (place_least (P ∘ C) b h).least (place P (place C b))
    (λ v k. holds_same (place P (place C b)) (move P (move C v)) (move (P ∘ C) v) (move_compose P C v)
    (place_holds P (place C b) (move C v) (place_holds C b v k)))
