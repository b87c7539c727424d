-- Exact placement: one of the eight orientations of a square, and an integer translation. No product is left, so no bound grows by turning.
-- What a float placement, point or vector must be to be the exact one. Definitions only. Assumes nothing.
use Rattle.std.specs.Prelude.{Bool, false, not, cond, ℕ, ◌*◌, ◌^◌}
use Rattle.geometry.specs.declared.placement.DVec2.{DVec2}
use Rattle.geometry.specs.declared.placement.Placement.{Placement}
use Rattle.exact.specs.Integer.{Integer, integer, ◌⊕◌, negate_if, ◌≐◌, Within}
use Rattle.exact.specs.IsInteger.{IsInteger, integer_of}

-- ---- vectors: a point, a spacing, an axis
pub record Vector : Type 0 where
  pub x : Integer
  pub y : Integer

infixl 60 ◌⊹◌
abbrev pub ◌⊹◌ : Vector → Vector → Vector
u ⊹ v = record { x = u.x ⊕ v.x; y = u.y ⊕ v.y }

-- equal in value
infix 50 ◌≐ᵛ◌
pub record ◌≐ᵛ◌ (u v : Vector) : Type 0 where
  pub x : u.x ≐ v.x
  pub y : u.y ≐ v.y

-- both coordinates of magnitude at most B
pub record VectorWithin (B : ℕ) (v : Vector) : Type 0 where
  pub x : Within B v.x
  pub y : Within B v.y

-- ---- orientations: swap the coordinates, then negate either
pub record Orientation : Type 0 where
  pub swapped : Bool
  pub negate_x : Bool
  pub negate_y : Bool

abbrev pub orient : Orientation → Vector → Vector
orient o v = record {
  x = negate_if o.negate_x (cond o.swapped v.y v.x);
  y = negate_if o.negate_y (cond o.swapped v.x v.y);
}

-- what the unit vectors become: the columns of the orientation's matrix
abbrev pub x_axis : Orientation → Vector
x_axis o = orient o (record { x = integer 1; y = integer 0 })

abbrev pub y_axis : Orientation → Vector
y_axis o = orient o (record { x = integer 0; y = integer 1 })

abbrev pub not_if : Bool → Bool → Bool
not_if b c = cond b (not c) c

-- first c, then p
infixl 70 ◌∘ᵒ◌
abbrev pub ◌∘ᵒ◌ : Orientation → Orientation → Orientation
p ∘ᵒ c = record {
  swapped = not_if p.swapped c.swapped;
  negate_x = not_if p.negate_x (cond p.swapped c.negate_y c.negate_x);
  negate_y = not_if p.negate_y (cond p.swapped c.negate_x c.negate_y);
}

-- ---- placements
pub record ExactPlacement : Type 0 where
  pub orientation : Orientation
  pub translation : Vector

abbrev pub identity : ExactPlacement
identity = record {
  orientation = record { swapped = false; negate_x = false; negate_y = false };
  translation = record { x = integer 0; y = integer 0 };
}

-- where a point goes
abbrev pub move : ExactPlacement → Vector → Vector
move T v = orient T.orientation v ⊹ T.translation

-- the product parent · child
infixl 70 ◌∘◌
abbrev pub ◌∘◌ : ExactPlacement → ExactPlacement → ExactPlacement
P ∘ C = record { orientation = P.orientation ∘ᵒ C.orientation; translation = move P C.translation }

-- ---- floats that are these, in value
pub record IsVector (v : DVec2) (i : Vector) : Type 0 where
  pub x : IsInteger v.x i.x
  pub y : IsInteger v.y i.y

pub record IsPlacement (p : Placement) (T : ExactPlacement) : Type 0 where
  pub xx : IsInteger p.xx (x_axis T.orientation).x
  pub xy : IsInteger p.xy (x_axis T.orientation).y
  pub yx : IsInteger p.yx (y_axis T.orientation).x
  pub yy : IsInteger p.yy (y_axis T.orientation).y
  pub tx : IsInteger p.tx T.translation.x
  pub ty : IsInteger p.ty T.translation.y

abbrev pub vector_of : DVec2 → Vector
vector_of v = record { x = integer_of v.x; y = integer_of v.y }

-- ---- levels: how many members stand between the root and a placement
-- Each member moves by at most 2 ^ 47, so a placement of level n stays within n of these. A reference's box lies within 2 ^ 48, so at 49 levels
-- everything placed stays below 2 ^ 53.
abbrev pub member_reach : ℕ
member_reach = 2 ^ 47

abbrev pub AtLevel : ℕ → ExactPlacement → Type 0
AtLevel n T = VectorWithin (n * member_reach) T.translation

abbrev pub deepest_level : ℕ
deepest_level = 49
