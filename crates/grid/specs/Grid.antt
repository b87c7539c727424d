-- The members of a reference: bevy_scene.rs (`grid_count`, `grid_member_transform`, `reference_bbox`).
-- "Cos and sin stand in for `sin_cos`"; "`mul_add` is the fused operation, rounded once".
-- Definitions only. Assumes nothing.
use Rattle.std.specs.Prelude.{Bool, cond, ◌||◌, ℕ, ◌-◌, ◌*◌, eqb, pos, Float}
use Rattle.std.specs.Float.{binary64}
use Rattle.std.specs.Float.Ieee.{neg, of_int}
use Rattle.fused.specs.Fma.{fma}
use Rattle.geometry.specs.declared.placement.DVec2.{DVec2}
use Rattle.geometry.specs.declared.placement.Placement.{Placement}
use Rattle.geometry.specs.declared.bbox.WorldBBox.{WorldBBox}
use Rattle.geometry.specs.declared.bbox.Bounds.{Bounds}
use Rattle.geometry.specs.declared.bbox.Bounds.TheVariants.{Absent}
use Rattle.grid.specs.declared.Grid.{Grid}
use Rattle.geometry.specs.Rounded.{◌⊕◌, ◌⊗◌}
use Rattle.geometry.specs.Placement.{vec, from_cols}
use Rattle.geometry.specs.Bbox.{boxed, merge, transform_bbox}

unfoldable pub grid_count : Grid → ℕ
grid_count g = g.columns * g.rows

-- ---- the placement of a member

-- Rust's `f64::from` of a u32
abbrev pub f64_from : ℕ → Float
f64_from n = of_int binary64 (pos n)

-- spacing_x * column + spacing_y * row
unfoldable pub offset : Grid → ℕ → ℕ → DVec2
offset g c r =
    vec (g.spacing_x.x ⊗ f64_from c ⊕ g.spacing_y.x ⊗ f64_from r) (g.spacing_x.y ⊗ f64_from c ⊕ g.spacing_y.y ⊗ f64_from r)

-- turned by the angle, in fused steps
unfoldable pub rotated : DVec2 → Float → Float → DVec2
rotated v cos sin = vec (fma binary64 v.x cos (neg (v.y ⊗ sin))) (fma binary64 v.x sin (v.y ⊗ cos))

-- the y axis before it is magnified; the x axis is (cos, sin)
unfoldable pub y_axis : Bool → Float → Float → DVec2
y_axis reflection cos sin = cond reflection (vec sin (neg cos)) (vec (neg sin) cos)

-- a vector times a number
abbrev pub scaled : DVec2 → Float → DVec2
scaled v m = vec (v.x ⊗ m) (v.y ⊗ m)

unfoldable pub grid_member_transform : Grid → ℕ → ℕ → Placement
grid_member_transform g c r =
    let turned = rotated (offset g c r) g.cos g.sin in
    from_cols (scaled (vec g.cos g.sin) g.magnification) (scaled (y_axis g.x_reflection g.cos g.sin) g.magnification)
    (vec (g.origin.x ⊕ turned.x) (g.origin.y ⊕ turned.y))

-- ---- the box of all members

unfoldable pub member_bbox : Grid → ℕ → ℕ → WorldBBox → WorldBBox
member_bbox g c r b = transform_bbox (grid_member_transform g c r) b

-- the four corner members up to a column and a row, column outer and row inner
abbrev pub corners_to : Grid → ℕ → ℕ → WorldBBox → WorldBBox
corners_to g column row b = merge (merge (merge (member_bbox g 0 0 b) (member_bbox g 0 row b)) (member_bbox g column 0 b)) (member_bbox g column row b)

unfoldable pub corners_bbox : Grid → WorldBBox → WorldBBox
corners_bbox g b = corners_to g (g.columns - 1) (g.rows - 1) b

unfoldable pub reference_bbox : Grid → WorldBBox → Bounds
reference_bbox g b = cond (eqb g.columns 0 || eqb g.rows 0) Absent (boxed (corners_bbox g b))
