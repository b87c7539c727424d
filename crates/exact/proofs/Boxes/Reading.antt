-- Boxes and grids of integers, read off floats that are integers. Assumes nothing.
use mathlib.Core.Path.{◌≡◌, refl, sym, subst}
use mathlib.Core.Logic.{inl, inr}
use mathlib.Core.Bool.{Bool, true, false, cond}
use Prim.Native.Nat.{◌+◌, ◌≤◌, ◌<◌}
use native.Mathlib.Omega.{arith}
use lib.Dec.{eqb→eq, ltb→lt, lt→ltb, not_T}
use lib.Ieee.{Float}
use lib.Ieee.Fits.{eq→eqb}
use lib.Ieee.Bits.{is_true, is_false}
use Rattle.geometry.specs.declared.bbox.WorldBBox.{WorldBBox}
use Rattle.grid.specs.declared.Grid.{Grid}
use Rattle.exact.specs.Integer.{Integer, integer, ◌≐◌, is_equal, is_below}
use Rattle.exact.specs.IsInteger.{IsInteger, integer_of}
use Rattle.exact.specs.Placement.{IsVector, vector_of}
use Rattle.exact.specs.Member.{Rotation, degrees0, degrees90, degrees180, degrees270, cosine, sine, GridWithin, IsGrid, rotation_of, grid_of, IsQuarterTurn}
use Rattle.exact.specs.Box.{IntegerBox, SameBox, IsBox, box_of}
use Rattle.exact.proofs.Floats.Reading.{integer_of_same}

-- ---- boxes
pub box_of_same : (b : WorldBBox) (z : IntegerBox) → IsBox b z → SameBox (box_of b) z
box_of_same b z h = record {
  min_x = integer_of_same b.min_x z.min_x h.min_x;
  min_y = integer_of_same b.min_y z.min_y h.min_y;
  max_x = integer_of_same b.max_x z.max_x h.max_x;
  max_y = integer_of_same b.max_y z.max_y h.max_y;
}

-- ---- the rotation of a cosine and a sine
equal_yes : (i j : Integer) → i ≐ j → is_equal i j ≡ true
equal_yes i j e = is_true (is_equal i j) (eq→eqb {a = i.pos + j.neg} {b = j.pos + i.neg} e)

equal_no : (i j : Integer) → (i ≐ j → ⊥) → is_equal i j ≡ false
equal_no i j f = is_false (is_equal i j) (not_T (is_equal i j) (λ t. f (eqb→eq (i.pos + j.neg) (j.pos + i.neg) t)))

below_yes : (i j : Integer) → i.pos + j.neg < j.pos + i.neg → is_below i j ≡ true
below_yes i j h = is_true (is_below i j) (lt→ltb (i.pos + j.neg) (j.pos + i.neg) h)

below_no : (i j : Integer) → j.pos + i.neg ≤ i.pos + j.neg → is_below i j ≡ false
below_no i j h = is_false (is_below i j) (not_T (is_below i j) (λ t. let k = ltb→lt (i.pos + j.neg) (j.pos + i.neg) t in let z : ⊥ = omega arith in z))

-- the three tests of `rotation_of`
abbrev chosen : Bool → Bool → Bool → Rotation
chosen vertical down left = cond vertical (cond down degrees270 degrees90) (cond left degrees180 degrees0)

rotation_known : (c s : Integer) (a : Rotation) → c ≐ cosine a → s ≐ sine a → rotation_of c s ≡ a
rotation_known c s degrees0 p q = λ i. chosen (equal_no c (integer 0) (λ e. omega arith) i) (below_no s (integer 0) (omega arith) i) (below_no c (integer 0) (omega arith) i)
rotation_known c s degrees90 p q = λ i. chosen (equal_yes c (integer 0) p i) (below_no s (integer 0) (omega arith) i) (below_no c (integer 0) (omega arith) i)
rotation_known c s degrees180 p q = λ i. chosen (equal_no c (integer 0) (λ e. omega arith) i) (below_no s (integer 0) (omega arith) i) (below_yes c (integer 0) (omega arith) i)
rotation_known c s degrees270 p q = λ i. chosen (equal_yes c (integer 0) p i) (below_yes s (integer 0) (omega arith) i) (below_no c (integer 0) (omega arith) i)

-- a float cosine and sine of a quarter turn are those of the rotation that is read
module _ (c s : Float) where
  abbrev IsRead : Rotation → Type 0
  IsRead a = IsInteger c (cosine a) × IsInteger s (sine a)

  read : (a : Rotation) → IsRead a → IsRead (rotation_of (integer_of c) (integer_of s))
  read a h =
      let e = rotation_known (integer_of c) (integer_of s) a (integer_of_same c (cosine a) h.0) (integer_of_same s (sine a) h.1) in
      subst IsRead (sym e) h

  rotation_of_is : IsQuarterTurn c s → IsInteger c (cosine (rotation_of (integer_of c) (integer_of s)))
      × IsInteger s (sine (rotation_of (integer_of c) (integer_of s)))
  rotation_of_is (inl (p, inl q)) = read degrees90 (p, q)
  rotation_of_is (inl (p, inr q)) = read degrees270 (p, q)
  rotation_of_is (inr (p, inl q)) = read degrees0 (q, p)
  rotation_of_is (inr (p, inr q)) = read degrees180 (q, p)

-- ---- grids
pub grid_of_is : (g : Grid) → g.columns ≤ 32767 → g.rows ≤ 32767 → IsVector g.origin (vector_of g.origin)
    → IsVector g.spacing_x (vector_of g.spacing_x) → IsVector g.spacing_y (vector_of g.spacing_y)
    → IsInteger g.magnification (integer 1) → IsQuarterTurn g.cos g.sin → GridWithin (grid_of g) → IsGrid g (grid_of g)
grid_of_is g columns≤ rows≤ origin across up one turn within =
    let t = rotation_of_is g.cos g.sin turn in
    record {
      columns = columns≤;
      rows = rows≤;
      x_reflection = refl;
      origin = origin;
      spacing_x = across;
      spacing_y = up;
      magnification = one;
      cos = t.0;
      sin = t.1;
      within = within;
    }
