-- WHOLE NUMBERS AMONG FRACTIONS, and the statement that on them this crate's exact placement is the whole-number placement of `exact`: a whole number keeps its value through every
-- step, as nothing is rounded on either side. Definitions only; proved in proofs/Whole.antt. Assumes nothing.
use Rattle.std.specs.Prelude.{ℕ, ◌^◌, Float}
use Rattle.grid.specs.declared.Grid.{Grid}
use Rattle.exact.specs.Integer.{Integer, ◌≐◌}
use Rattle.exact.specs.IsInteger.{IsInteger}
use Rattle.exact.specs.Placement.{Vector, x_axis, y_axis, ExactPlacement, identity, move, ◌∘◌}
use Rattle.exact.specs.Member.{IntegerGrid, member_placement, IsGrid}
use Rattle.fractions.specs.Fraction.{Fraction, ◌⊙◌, value_of}
use Rattle.fractions.specs.Placement as fractions
use Rattle.fractions.specs.Placement.{FractionVector, FractionPlacement}

-- the fraction has the value i
abbrev pub IsWhole : Integer → Fraction → Type 0
IsWhole i a = i ⊙ 2 ^ a.places ≐ a.num

pub record IsWholeVector (i : Vector) (v : FractionVector) : Type 0 where
  pub x : IsWhole i.x v.x
  pub y : IsWhole i.y v.y

-- the orientation's axes, and the translation
pub record IsWholePlacement (T : ExactPlacement) (U : FractionPlacement) : Type 0 where
  pub x_axis : IsWholeVector (x_axis T.orientation) U.x_axis
  pub y_axis : IsWholeVector (y_axis T.orientation) U.y_axis
  pub translation : IsWholeVector T.translation U.translation

pub record WholeSteps : Type 0 where
  -- a float that is an integer has its value
  pub number : (x : Float) (i : Integer) → IsInteger x i → IsWhole i (value_of x)
  -- the root's placement
  pub root : IsWholePlacement identity fractions.identity
  -- a point goes to the same point
  pub point : (T : ExactPlacement) (U : FractionPlacement) (i : Vector) (v : FractionVector) → IsWholePlacement T U → IsWholeVector i v → IsWholeVector (move T i) (fractions.move U v)
  -- the product parent · child
  pub product : (P C : ExactPlacement) (Q D : FractionPlacement) → IsWholePlacement P Q → IsWholePlacement C D → IsWholePlacement (P ∘ C) (fractions.◌∘◌ Q D)
  -- a member of a square sheet's grid
  pub member : (g : Grid) (z : IntegerGrid) (column row : ℕ) → IsGrid g z → IsWholePlacement (member_placement z column row) (fractions.member_placement g column row)
