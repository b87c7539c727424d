-- "Its exact whole-number placement, which is what the rules' placement steps give without rounding": the steps of document 01, on integers,
-- and the statement that `move`, the product and `member_placement` are what they give. Proved in proofs/Placements/Steps.antt.
use Rattle.std.specs.Prelude.{Bool, cond, ℕ}
use Rattle.exact.specs.Integer.{Integer, integer, ◌⊕◌, ◌⊗◌, negate}
use Rattle.exact.specs.Placement.{Vector, ◌⊹◌, ◌≐ᵛ◌, Orientation, x_axis, y_axis, ExactPlacement, move, ◌∘◌}
use Rattle.exact.specs.Member.{cosine, sine, IntegerGrid, member_placement}

-- both coordinates times a number
infixl 70 ◌⊛◌
abbrev pub ◌⊛◌ : Vector → Integer → Vector
v ⊛ n = record { x = v.x ⊗ n; y = v.y ⊗ n }

-- "parent·v is xaxis·vx + yaxis·vy alone"
abbrev pub linear_step : Orientation → Vector → Vector
linear_step o v = x_axis o ⊛ v.x ⊹ y_axis o ⊛ v.y

-- `offset.x.mul_add(cos, -(offset.y * sin))`, `offset.x.mul_add(sin, offset.y * cos)`
abbrev pub rotated_offset : IntegerGrid → Vector → Vector
rotated_offset g offset = record {
  x = offset.x ⊗ cosine g.angle ⊕ negate (offset.y ⊗ sine g.angle);
  y = offset.x ⊗ sine g.angle ⊕ offset.y ⊗ cosine g.angle;
}

-- `if grid.x_reflection() { DVec2::new(sin, -cos) } else { DVec2::new(-sin, cos) }`
abbrev pub y_axis_step : Bool → Integer → Integer → Vector
y_axis_step reflected cos sin = cond reflected (record { x = sin; y = negate cos }) (record { x = negate sin; y = cos })

pub record UnroundedSteps : Type 0 where
  -- "p goes to (xaxis·px + yaxis·py) + translation"
  pub point : (T : ExactPlacement) (p : Vector) → move T p ≐ᵛ linear_step T.orientation p ⊹ T.translation
  -- "The product parent·child has columns parent·axis, and translation parent·translation + parent translation"
  pub product_x : (P C : ExactPlacement) → x_axis (P ∘ C).orientation ≐ᵛ linear_step P.orientation (x_axis C.orientation)
  pub product_y : (P C : ExactPlacement) → y_axis (P ∘ C).orientation ≐ᵛ linear_step P.orientation (y_axis C.orientation)
  pub product_translation : (P C : ExactPlacement) → (P ∘ C).translation ≐ᵛ linear_step P.orientation C.translation ⊹ P.translation
  -- `grid_member_transform`, with the magnification 1: `DVec2::new(cos, sin) * magnification`
  pub member_x : (g : IntegerGrid) (column row : ℕ)
      → x_axis (member_placement g column row).orientation ≐ᵛ record { x = cosine g.angle; y = sine g.angle } ⊛ integer 1
  pub member_y : (g : IntegerGrid) (column row : ℕ)
      → y_axis (member_placement g column row).orientation ≐ᵛ y_axis_step g.x_reflection (cosine g.angle) (sine g.angle) ⊛ integer 1
  -- `spacing_x * column + spacing_y * row`, rotated, added to the origin
  pub member_translation : (g : IntegerGrid) (column row : ℕ)
      → (member_placement g column row).translation
      ≐ᵛ g.origin ⊹ rotated_offset g (g.spacing_x ⊛ integer column ⊹ g.spacing_y ⊛ integer row)
