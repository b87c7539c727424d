-- EXACT PLACEMENT ON FRACTIONS. Document 02, paper 14: "document 01's steps without their rounding". Each definition is that of `geometry` (Placement) or `grid` (Grid) without its
-- roundings. Definitions only. Assumes nothing.
use Rattle.std.specs.Prelude.{Bool, cond, ℕ}
use Rattle.geometry.specs.declared.placement.DVec2.{DVec2}
use Rattle.grid.specs.declared.Grid.{Grid}
use Rattle.fractions.specs.Fraction.{Fraction, fraction, ◌⊞◌, opposite, ◌⊠◌, value_of}

pub record FractionVector : Type 0 where
  pub x : Fraction
  pub y : Fraction

abbrev pub vector : Fraction → Fraction → FractionVector
vector x y = record { x = x; y = y }

-- a position or a spacing of the sheet
abbrev pub vector_of : DVec2 → FractionVector
vector_of v = vector (value_of v.x) (value_of v.y)

pub record FractionPlacement : Type 0 where
  pub x_axis : FractionVector
  pub y_axis : FractionVector
  pub translation : FractionVector

abbrev pub identity : FractionPlacement
identity = record { x_axis = vector (fraction 1) (fraction 0); y_axis = vector (fraction 0) (fraction 1); translation = vector (fraction 0) (fraction 0) }

-- "parent·v is xaxis·vx + yaxis·vy alone"
abbrev pub linear : FractionPlacement → FractionVector → FractionVector
linear T v = vector (T.x_axis.x ⊠ v.x ⊞ T.y_axis.x ⊠ v.y) (T.x_axis.y ⊠ v.x ⊞ T.y_axis.y ⊠ v.y)

-- "p goes to (xaxis·px + yaxis·py) + translation"
abbrev pub move : FractionPlacement → FractionVector → FractionVector
move T v = vector ((linear T v).x ⊞ T.translation.x) ((linear T v).y ⊞ T.translation.y)

-- "The product parent·child has columns parent·axis, and translation parent·translation + parent translation"
infixl 70 ◌∘◌
abbrev pub ◌∘◌ : FractionPlacement → FractionPlacement → FractionPlacement
P ∘ C = record { x_axis = linear P C.x_axis; y_axis = linear P C.y_axis; translation = move P C.translation }

-- ---- a member of a reference: `grid_member_transform`

-- `spacing_x * column + spacing_y * row`
abbrev pub offset : Grid → ℕ → ℕ → FractionVector
offset g column row =
    vector
    (value_of g.spacing_x.x ⊠ fraction column ⊞ value_of g.spacing_y.x ⊠ fraction row)
    (value_of g.spacing_x.y ⊠ fraction column ⊞ value_of g.spacing_y.y ⊠ fraction row)

-- `offset.x.mul_add(cos, -(offset.y * sin))`, `offset.x.mul_add(sin, offset.y * cos)`
abbrev pub rotated : FractionVector → Fraction → Fraction → FractionVector
rotated v cos sin = vector (v.x ⊠ cos ⊞ opposite (v.y ⊠ sin)) (v.x ⊠ sin ⊞ v.y ⊠ cos)

-- `if grid.x_reflection() { DVec2::new(sin, -cos) } else { DVec2::new(-sin, cos) }`
abbrev pub y_axis_of : Bool → Fraction → Fraction → FractionVector
y_axis_of reflection cos sin = cond reflection (vector sin (opposite cos)) (vector (opposite sin) cos)

abbrev pub scaled : FractionVector → Fraction → FractionVector
scaled v m = vector (v.x ⊠ m) (v.y ⊠ m)

abbrev pub member_placement : Grid → ℕ → ℕ → FractionPlacement
member_placement g column row =
    let cos = value_of g.cos in
    let sin = value_of g.sin in
    let m = value_of g.magnification in
    let turned = rotated (offset g column row) cos sin in
    record {
      x_axis = scaled (vector cos sin) m;
      y_axis = scaled (y_axis_of g.x_reflection cos sin) m;
      translation = vector (value_of g.origin.x ⊞ turned.x) (value_of g.origin.y ⊞ turned.y);
    }
