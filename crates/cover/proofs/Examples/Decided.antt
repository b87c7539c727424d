-- SQUARE AND TRUE BOXES, DECIDED: tests of a sheet's bytes, and that a sheet which passes them is square with true boxes. A concrete sheet then needs one computation.
-- The tests say the same as `Square` and `TrueBoxes`, field by field; a node's least box touches a point on each side.
-- Assumes nothing.
use mathlib.Core.Path.{◌≡◌}
use mathlib.Core.Logic.{◌⊎◌, inl, inr}
use mathlib.Core.Bool.{Bool, true, false, ◌&&◌, ◌||◌}
use mathlib.Core.List.{List}
use Prim.Native.Nat.{ℕ, ◌*◌, ◌/◌, ◌^◌, ◌≤◌, ◌<◌}
use native.Mathlib.Omega.{arith}
use lib.Dec.{leb, eqb, leb→le, eqb→eq}
use lib.Dec.{T as Yes}
use lib.Ieee.{Float, nan, inf, fin, up, down}
use Rattle.geometry.specs.declared.placement.DVec2.{DVec2}
use Rattle.geometry.specs.declared.bbox.WorldBBox.{WorldBBox}
use Rattle.geometry.specs.declared.bbox.Bounds.{Bounds}
use Rattle.geometry.specs.declared.bbox.Bounds.TheVariants.{Absent, Box}
use Rattle.grid.specs.declared.Grid.{Grid}
use Rattle.geometry.specs.Bbox.{bbox}
use Rattle.walk.specs.Find.{find_in, of_kind}
use Rattle.records.specs.declared.PreparedGeometry.{PreparedGeometry}
use Rattle.records.specs.declared.PreparedText.{PreparedText}
use Rattle.records.specs.declared.PreparedSource.{PreparedSource}
use Rattle.records.specs.declared.PreparedSource.TheVariants.{Geometry, Text, Node, Reference, Cell}
use Rattle.records.specs.declared.PreparedReference.{PreparedReference}
use Rattle.records.specs.Records.{geometry_at, text_at, reference_at}
use Rattle.abstract_sheet.specs.Sheet.{NodeRecord, CellRecord, Sheet, node_record_at, cell_record_at, sheet_by, sheet_of}
use Rattle.exact.specs.Integer.{Integer, integer, negate, ◌≼◌, is_equal, is_at_most}
use Rattle.exact.specs.IsInteger.{IsInteger, integer_of}
use Rattle.exact.specs.Placement.{Vector, vector_of}
use Rattle.exact.specs.Member.{IsQuarterTurn}
use Rattle.exact.specs.Box.{IntegerBox, Inside, point_box, box_of}
use Rattle.exact.proofs.Floats.Rounding.{integer_same}
use Rattle.exact.proofs.Boxes.Relations.{encloses_both}
use Rattle.paths.specs.Square.{SquareNumber, SquareVector, SquareBox, SquareBounds, SquareGrid, Square, FewMembers}
use Rattle.cover.proofs.Examples.Every.{every, every_below, some_below, if_there, both, either, of_every, of_every_below, of_some_below, of_there}
use Rattle.paths.specs.TrueBoxes.{Encloses, EnclosesBounds, IsThere, SameBounds, LeastBox, IsLeastBox, reference_bounds, cell_bounds, TrueCellBox, TrueSourceBox, TrueBoxes}

-- ---- numbers, vectors and boxes of a square sheet

abbrev is_square_number : Float → Bool
is_square_number nan = false
is_square_number (inf s) = false
is_square_number (fin s m e) = eqb (m * up e) (m * up e / down e * down e) && leb (m * up e / down e) (2 ^ 31)

square_number : (x : Float) → Yes (is_square_number x) → SquareNumber x
square_number nan h = absurd h
square_number (inf s) h = absurd h
square_number (fin s m e) h = let k = both (eqb (m * up e) (m * up e / down e * down e)) (leb (m * up e / down e) (2 ^ 31)) h in by s (eqb→eq _ _ k.0) (leb→le _ _ k.1)
  where
    by : (s : Bool) → m * up e ≡ m * up e / down e * down e → m * up e / down e ≤ 2 ^ 31 → SquareNumber (fin s m e)
    by true q l = record { whole = omega arith; within = record { above = omega arith; below = omega arith } }
    by false q l = record { whole = omega arith; within = record { above = omega arith; below = omega arith } }

abbrev is_number : Float → Integer → Bool
is_number x i = is_square_number x && is_equal (integer_of x) i

is_number_lem : (x : Float) (i : Integer) → Yes (is_number x i) → IsInteger x i
is_number_lem x i h = let k = both (is_square_number x) _ h in integer_same x (integer_of x) i (eqb→eq _ _ k.1) (square_number x k.0).whole

at_most : (a b : Integer) → Yes (is_at_most a b) → a ≼ b
at_most a b h = leb→le _ _ h

abbrev is_square_vector : DVec2 → Bool
is_square_vector v = is_square_number v.x && is_square_number v.y

square_vector : (v : DVec2) → Yes (is_square_vector v) → SquareVector v
square_vector v h = let k = both (is_square_number v.x) _ h in record { x = square_number v.x k.0; y = square_number v.y k.1 }

-- a box's lower left and upper right corner
abbrev lower : WorldBBox → DVec2
lower b = record { x = b.min_x; y = b.min_y }

abbrev upper : WorldBBox → DVec2
upper b = record { x = b.max_x; y = b.max_y }

-- neither coordinate of u is above that of v
abbrev is_below_left : Vector → Vector → Bool
is_below_left u v = is_at_most u.x v.x && is_at_most u.y v.y

below_left : (u v : Vector) → Yes (is_below_left u v) → (u.x ≼ v.x) × (u.y ≼ v.y)
below_left u v h = let k = both (is_at_most u.x v.x) _ h in (at_most u.x v.x k.0, at_most u.y v.y k.1)

abbrev pub is_square_box : WorldBBox → Bool
is_square_box b = is_square_vector (lower b) && (is_square_vector (upper b) && is_below_left (vector_of (lower b)) (vector_of (upper b)))

pub square_box : (b : WorldBBox) → Yes (is_square_box b) → SquareBox b
square_box b h =
    let k = both (is_square_vector (lower b)) _ h in
    let l = both (is_square_vector (upper b)) _ k.1 in
    let s = square_vector (lower b) k.0 in
    let t = square_vector (upper b) l.0 in
    let o = below_left (vector_of (lower b)) (vector_of (upper b)) l.1 in
    record { min_x = s.x; min_y = s.y; max_x = t.x; max_y = t.y; proper = record { x = o.0; y = o.1 } }

abbrev is_square_bounds : Bounds → Bool
is_square_bounds Absent = true
is_square_bounds (Box a b c d) = is_square_box (bbox a b c d)

square_bounds : (o : Bounds) → Yes (is_square_bounds o) → SquareBounds o
square_bounds Absent h = tt
square_bounds (Box a b c d) h = square_box (bbox a b c d) h

-- ---- grids

abbrev is_plus_or_minus_one : Float → Bool
is_plus_or_minus_one x = is_number x (integer 1) || is_number x (negate (integer 1))

plus_or_minus_one : (x : Float) → Yes (is_plus_or_minus_one x) → IsInteger x (integer 1) ⊎ IsInteger x (negate (integer 1))
plus_or_minus_one x h = by (either (is_number x (integer 1)) _ h)
  where
    by : Yes (is_number x (integer 1)) ⊎ Yes (is_number x (negate (integer 1))) → IsInteger x (integer 1) ⊎ IsInteger x (negate (integer 1))
    by (inl k) = inl (is_number_lem x (integer 1) k)
    by (inr k) = inr (is_number_lem x (negate (integer 1)) k)

-- one of the two is 0, and the other 1 or −1
abbrev is_axis : Float → Float → Bool
is_axis x y = is_number x (integer 0) && is_plus_or_minus_one y

axis : (x y : Float) → Yes (is_axis x y) → IsInteger x (integer 0) × (IsInteger y (integer 1) ⊎ IsInteger y (negate (integer 1)))
axis x y h = let k = both (is_number x (integer 0)) _ h in (is_number_lem x (integer 0) k.0, plus_or_minus_one y k.1)

quarter_turn_lem : (c s : Float) → Yes (is_axis c s || is_axis s c) → IsQuarterTurn c s
quarter_turn_lem c s h = by (either (is_axis c s) _ h)
  where
    by : Yes (is_axis c s) ⊎ Yes (is_axis s c) → IsQuarterTurn c s
    by (inl k) = inl (axis c s k)
    by (inr k) = inr (axis s c k)

abbrev is_square_grid : Grid → Bool
is_square_grid g =
    is_square_vector g.origin
    && (is_square_vector g.spacing_x
    && (is_square_vector g.spacing_y
    && (is_number g.magnification (integer 1)
    && (is_axis g.cos g.sin || is_axis g.sin g.cos))))

square_grid : (g : Grid) → Yes (is_square_grid g) → SquareGrid g
square_grid g h =
    let a = both (is_square_vector g.origin) _ h in
    let b = both (is_square_vector g.spacing_x) _ a.1 in
    let c = both (is_square_vector g.spacing_y) _ b.1 in
    let d = both (is_number g.magnification (integer 1)) _ c.1 in
    record {
      origin = square_vector g.origin a.0;
      spacing_x = square_vector g.spacing_x b.0;
      spacing_y = square_vector g.spacing_y c.0;
      magnification = is_number_lem g.magnification (integer 1) d.0;
      rotation = quarter_turn_lem g.cos g.sin d.1;
    }

-- ---- the sheet is square

abbrev is_square_reference : PreparedReference → Bool
is_square_reference r = is_square_grid r.grid && is_square_bounds r.source_bbox

abbrev is_square_node : NodeRecord → Bool
is_square_node x = every_below (λ (j : ℕ). is_square_vector (x.point j)) x.count

abbrev pub is_square : List ℕ → Bool
is_square s =
    every (λ (at : ℕ). is_square_box (geometry_at s at).bbox) (of_kind s 1)
    && (every (λ (at : ℕ). is_square_vector (text_at s at).origin) (of_kind s 2)
    && (every (λ (at : ℕ). is_square_node (node_record_at s at)) (of_kind s 3)
    && (every (λ (at : ℕ). is_square_reference (reference_at s at)) (of_kind s 4)
    && every (λ (at : ℕ). is_square_bounds (cell_record_at s at).bbox) (of_kind s 5))))

pub square_sheet : (s : List ℕ) → Yes (is_square s) → Square (sheet_of s)
unfolding sheet_by sheet_of find_in
square_sheet s h =
    let a = both (every (λ (at : ℕ). is_square_box (geometry_at s at).bbox) (of_kind s 1)) _ h in
    let b = both (every (λ (at : ℕ). is_square_vector (text_at s at).origin) (of_kind s 2)) _ a.1 in
    let c = both (every (λ (at : ℕ). is_square_node (node_record_at s at)) (of_kind s 3)) _ b.1 in
    let d = both (every (λ (at : ℕ). is_square_reference (reference_at s at)) (of_kind s 4)) _ c.1 in
    let grids = of_every (reference_at s) is_square_reference (of_kind s 4) d.0 in
    record {
      geometry = λ n g e. square_box g.bbox (of_every (geometry_at s) (λ (g : PreparedGeometry). is_square_box g.bbox) (of_kind s 1) a.0 n g e);
      text = λ n x e. square_vector x.origin (of_every (text_at s) (λ (x : PreparedText). is_square_vector x.origin) (of_kind s 2) b.0 n x e);
      point = λ n x j e j<. square_vector (x.point j) (of_every_below (λ (j : ℕ). is_square_vector (x.point j)) x.count (of_every (node_record_at s) is_square_node (of_kind s 3) c.0 n x e) j j<);
      grid = λ n r e. square_grid r.grid (both (is_square_grid r.grid) _ (grids n r e)).0;
      source_box = λ n r e. square_bounds r.source_bbox (both (is_square_grid r.grid) _ (grids n r e)).1;
      cell_box = λ n c e. square_bounds c.bbox (of_every (cell_record_at s) (λ (c : CellRecord). is_square_bounds c.bbox) (of_kind s 5) d.1 n c e);
    }

-- ---- boxes that enclose, and boxes that are the same

abbrev is_inside : IntegerBox → IntegerBox → Bool
is_inside a b = is_below_left (record { x = b.min_x; y = b.min_y }) (record { x = a.min_x; y = a.min_y }) && is_below_left (record { x = a.max_x; y = a.max_y }) (record { x = b.max_x; y = b.max_y })

inside : (a b : IntegerBox) → Yes (is_inside a b) → Inside a b
inside a b h =
    let k = both (is_below_left (record { x = b.min_x; y = b.min_y }) (record { x = a.min_x; y = a.min_y })) _ h in
    let l = below_left _ _ k.0 in
    let u = below_left _ _ k.1 in
    record { left = l.0; right = u.0; bottom = l.1; top = u.1 }

abbrev encloses : Bounds → IntegerBox → Bool
encloses Absent z = false
encloses (Box a b c d) z = is_inside z (box_of (bbox a b c d))

encloses_it : (o : Bounds) (z : IntegerBox) → Yes (encloses o z) → Encloses o z
encloses_it Absent z h = h
encloses_it (Box a b c d) z h = inside z (box_of (bbox a b c d)) h

abbrev encloses_bounds : Bounds → Bounds → Bool
encloses_bounds o Absent = true
encloses_bounds o (Box a b c d) = encloses o (box_of (bbox a b c d))

encloses_bounds_lem : (o z : Bounds) → Yes (encloses_bounds o z) → EnclosesBounds o z
encloses_bounds_lem o Absent h = tt
encloses_bounds_lem o (Box a b c d) h = encloses_it o (box_of (bbox a b c d)) h

-- the same where each lies inside the other
abbrev is_there : Bounds → IntegerBox → Bool
is_there Absent z = false
is_there (Box a b c d) z = is_inside (box_of (bbox a b c d)) z && is_inside z (box_of (bbox a b c d))

is_there_lem : (o : Bounds) (z : IntegerBox) → Yes (is_there o z) → IsThere o z
is_there_lem Absent z h = h
is_there_lem (Box a b c d) z h =
    let w = box_of (bbox a b c d) in
    let k = both (is_inside w z) _ h in
    encloses_both w z (inside w z k.0) (inside z w k.1)

abbrev same_bounds : Bounds → Bounds → Bool
same_bounds Absent Absent = true
same_bounds (Box a b c d) Absent = false
same_bounds o (Box a b c d) = is_there o (box_of (bbox a b c d))

same_bounds_lem : (o z : Bounds) → Yes (same_bounds o z) → SameBounds o z
same_bounds_lem Absent Absent h = tt
same_bounds_lem (Box a b c d) Absent h = h
same_bounds_lem Absent (Box a b c d) h = h
same_bounds_lem (Box x y z w) (Box a b c d) h = is_there_lem (Box x y z w) (box_of (bbox a b c d)) h

-- ---- a node's least box: it holds every point, and each of its sides has one

abbrev is_least_box : NodeRecord → IntegerBox → Bool
is_least_box x z =
    every_below (λ (j : ℕ). is_inside (point_box (vector_of (x.point j))) z) x.count
    && (some_below (λ (j : ℕ). is_at_most (vector_of (x.point j)).x z.min_x) x.count
    && (some_below (λ (j : ℕ). is_at_most (vector_of (x.point j)).y z.min_y) x.count
    && (some_below (λ (j : ℕ). is_at_most z.max_x (vector_of (x.point j)).x) x.count
    && some_below (λ (j : ℕ). is_at_most z.max_y (vector_of (x.point j)).y) x.count)))

at_most_at_most : (a b c : Integer) → a ≼ b → b ≼ c → a ≼ c
at_most_at_most a b c h k = omega arith

least_box : (x : NodeRecord) (z : IntegerBox) → Yes (is_least_box x z) → LeastBox x z
least_box x z h =
    let k = both (every_below (λ (j : ℕ). is_inside (point_box (vector_of (x.point j))) z) x.count) _ h in
    let a = both (some_below (λ (j : ℕ). is_at_most (vector_of (x.point j)).x z.min_x) x.count) _ k.1 in
    let b = both (some_below (λ (j : ℕ). is_at_most (vector_of (x.point j)).y z.min_y) x.count) _ a.1 in
    let c = both (some_below (λ (j : ℕ). is_at_most z.max_x (vector_of (x.point j)).x) x.count) _ b.1 in
    let l = of_some_below (λ (j : ℕ). is_at_most (vector_of (x.point j)).x z.min_x) x.count a.0 in
    let o = of_some_below (λ (j : ℕ). is_at_most (vector_of (x.point j)).y z.min_y) x.count b.0 in
    let r = of_some_below (λ (j : ℕ). is_at_most z.max_x (vector_of (x.point j)).x) x.count c.0 in
    let t = of_some_below (λ (j : ℕ). is_at_most z.max_y (vector_of (x.point j)).y) x.count c.1 in
    record {
      holds = λ j j<.
          let i = inside (point_box (vector_of (x.point j))) z (of_every_below (λ (j : ℕ). is_inside (point_box (vector_of (x.point j))) z) x.count k.0 j j<) in
          record { left = i.left; right = i.right; bottom = i.bottom; top = i.top };
      least = λ w g. record {
        left = at_most_at_most w.min_x (vector_of (x.point l.0)).x z.min_x (g l.0 l.1).left (at_most (vector_of (x.point l.0)).x z.min_x l.2);
        right = at_most_at_most z.max_x (vector_of (x.point r.0)).x w.max_x (at_most z.max_x (vector_of (x.point r.0)).x r.2) (g r.0 r.1).right;
        bottom = at_most_at_most w.min_y (vector_of (x.point o.0)).y z.min_y (g o.0 o.1).bottom (at_most (vector_of (x.point o.0)).y z.min_y o.2);
        top = at_most_at_most z.max_y (vector_of (x.point t.0)).y w.max_y (at_most z.max_y (vector_of (x.point t.0)).y t.2) (g t.0 t.1).top;
      };
    }

abbrev is_least_bounds : Bounds → NodeRecord → Bool
is_least_bounds Absent x = false
is_least_bounds (Box a b c d) x = is_least_box x (box_of (bbox a b c d))

least_bounds : (o : Bounds) (x : NodeRecord) → Yes (is_least_bounds o x) → IsLeastBox o x
least_bounds Absent x h = h
least_bounds (Box a b c d) x h = least_box x (box_of (bbox a b c d)) h

-- ---- the sheet's boxes are true

-- "batches of at least one element"
abbrev encloses_batch : Bounds → PreparedGeometry → Bool
encloses_batch o g = eqb g.element_count 0 || encloses o (box_of g.bbox)

encloses_batch_lem : (o : Bounds) (g : PreparedGeometry) → Yes (encloses_batch o g) → 0 < g.element_count → Encloses o (box_of g.bbox)
encloses_batch_lem o g h there = by (either (eqb g.element_count 0) _ h)
  where
    by : Yes (eqb g.element_count 0) ⊎ Yes (encloses o (box_of g.bbox)) → Encloses o (box_of g.bbox)
    by (inl k) = let e : g.element_count ≡ 0 = eqb→eq _ _ k in absurd (let y : ⊥ = omega arith in y)
    by (inr k) = encloses_it o (box_of g.bbox) k

abbrev encloses_text : Bounds → PreparedText → Bool
encloses_text o x = encloses o (point_box (vector_of x.origin))

abbrev encloses_points : Bounds → NodeRecord → Bool
encloses_points o x = every_below (λ (j : ℕ). encloses o (point_box (vector_of (x.point j)))) x.count

abbrev encloses_reference : Bounds → PreparedReference → Bool
encloses_reference o r = encloses_bounds o (reference_bounds r r.source_bbox)

module _ (S : Sheet) where
  abbrev is_true_cell_box : CellRecord → Bool
  is_true_cell_box c =
      every_below (λ (i : ℕ). if_there (encloses_text c.bbox) (S.text (c.texts.at i))) c.texts.count
      && (every_below (λ (i : ℕ). if_there (encloses_points c.bbox) (S.node (c.nodes.at i))) c.nodes.count
      && (every_below (λ (i : ℕ). if_there (encloses_batch c.bbox) (S.geometry (c.geometries.at i))) c.geometries.count
      && every_below (λ (i : ℕ). if_there (encloses_reference c.bbox) (S.reference (c.references.at i))) c.references.count))

  true_cell_box : (c : CellRecord) → Yes (is_true_cell_box c) → TrueCellBox S c
  true_cell_box c h =
      let t = both (every_below (λ (i : ℕ). if_there (encloses_text c.bbox) (S.text (c.texts.at i))) c.texts.count) _ h in
      let p = both (every_below (λ (i : ℕ). if_there (encloses_points c.bbox) (S.node (c.nodes.at i))) c.nodes.count) _ t.1 in
      let b = both (every_below (λ (i : ℕ). if_there (encloses_batch c.bbox) (S.geometry (c.geometries.at i))) c.geometries.count) _ p.1 in
      record {
        texts = λ i x i< e.
            encloses_it c.bbox (point_box (vector_of x.origin))
            (of_there (encloses_text c.bbox) (S.text (c.texts.at i)) x (of_every_below (λ (i : ℕ). if_there (encloses_text c.bbox) (S.text (c.texts.at i))) c.texts.count t.0 i i<) e);
        points = λ i j x i< e j<.
            encloses_it c.bbox (point_box (vector_of (x.point j)))
            (of_every_below (λ (j : ℕ). encloses c.bbox (point_box (vector_of (x.point j)))) x.count
            (of_there (encloses_points c.bbox) (S.node (c.nodes.at i)) x (of_every_below (λ (i : ℕ). if_there (encloses_points c.bbox) (S.node (c.nodes.at i))) c.nodes.count p.0 i i<) e) j j<);
        batches = λ i g i< e there.
            encloses_batch_lem c.bbox g
            (of_there (encloses_batch c.bbox) (S.geometry (c.geometries.at i)) g (of_every_below (λ (i : ℕ). if_there (encloses_batch c.bbox) (S.geometry (c.geometries.at i))) c.geometries.count b.0 i i<) e) there;
        references = λ i r i< e.
            encloses_bounds_lem c.bbox (reference_bounds r r.source_bbox)
            (of_there (encloses_reference c.bbox) (S.reference (c.references.at i)) r (of_every_below (λ (i : ℕ). if_there (encloses_reference c.bbox) (S.reference (c.references.at i))) c.references.count b.1 i i<) e);
      }

  abbrev is_true_source_box : Bounds → PreparedSource → Bool
  is_true_source_box o (Cell n) = same_bounds o (cell_bounds (S.cell n))
  is_true_source_box o (Geometry n) = if_there (encloses_batch o) (S.geometry n)
  is_true_source_box o (Text n) = if_there (λ (x : PreparedText). is_there o (point_box (vector_of x.origin))) (S.text n)
  is_true_source_box o (Node n) = if_there (is_least_bounds o) (S.node n)
  is_true_source_box o (Reference n) = if_there (λ (r : PreparedReference). same_bounds o (reference_bounds r r.source_bbox)) (S.reference n)

  true_source_box : (o : Bounds) (x : PreparedSource) → Yes (is_true_source_box o x) → TrueSourceBox S o x
  true_source_box o (Cell n) h = same_bounds_lem o (cell_bounds (S.cell n)) h
  true_source_box o (Geometry n) h = λ g e there. encloses_batch_lem o g (of_there (encloses_batch o) (S.geometry n) g h e) there
  true_source_box o (Text n) h = λ x e. is_there_lem o (point_box (vector_of x.origin)) (of_there (λ (x : PreparedText). is_there o (point_box (vector_of x.origin))) (S.text n) x h e)
  true_source_box o (Node n) h = λ x e. least_bounds o x (of_there (is_least_bounds o) (S.node n) x h e)
  true_source_box o (Reference n) h = λ r e.
      same_bounds_lem o (reference_bounds r r.source_bbox) (of_there (λ (r : PreparedReference). same_bounds o (reference_bounds r r.source_bbox)) (S.reference n) r h e)

abbrev pub has_true_boxes : List ℕ → Bool
has_true_boxes s =
    every (λ (at : ℕ). is_true_cell_box (sheet_of s) (cell_record_at s at)) (of_kind s 5)
    && every (λ (at : ℕ). is_true_source_box (sheet_of s) (reference_at s at).source_bbox (reference_at s at).source) (of_kind s 4)

pub true_boxes_sheet : (s : List ℕ) → Yes (has_true_boxes s) → TrueBoxes (sheet_of s)
unfolding sheet_by sheet_of find_in
true_boxes_sheet s h =
    let k = both (every (λ (at : ℕ). is_true_cell_box (sheet_of s) (cell_record_at s at)) (of_kind s 5)) _ h in
    record {
      cells = λ n c e. true_cell_box (sheet_of s) c (of_every (cell_record_at s) (is_true_cell_box (sheet_of s)) (of_kind s 5) k.0 n c e);
      sources = λ n r e.
          true_source_box (sheet_of s) r.source_bbox r.source
          (of_every (reference_at s) (λ (r : PreparedReference). is_true_source_box (sheet_of s) r.source_bbox r.source) (of_kind s 4) k.1 n r e);
    }

-- ---- question 4's columns and rows

abbrev few_members : PreparedReference → Bool
few_members r = leb r.grid.columns 32767 && leb r.grid.rows 32767

abbrev pub has_few_members : List ℕ → Bool
has_few_members s = every (λ (at : ℕ). few_members (reference_at s at)) (of_kind s 4)

pub few_members_sheet : (s : List ℕ) → Yes (has_few_members s) → FewMembers (sheet_of s)
unfolding sheet_by sheet_of find_in
few_members_sheet s h n r e =
    let k = both (leb r.grid.columns 32767) _ (of_every (reference_at s) few_members (of_kind s 4) h n r e) in
    (leb→le r.grid.columns 32767 k.0, leb→le r.grid.rows 32767 k.1)
