-- Points and placements. Document 01, "Placement": "p goes to (xaxis·px + yaxis·py) + translation, each operation rounded.
-- The product parent·child has columns parent·axis, and translation parent·translation + parent translation,
-- where parent·v is xaxis·vx + yaxis·vy alone."
-- Definitions only. Assumes nothing.
use Rattle.std.specs.Prelude.{pos, false, Float}
use Rattle.std.specs.Float.{fin}
use Rattle.geometry.specs.declared.placement.DVec2.{DVec2}
use Rattle.geometry.specs.declared.placement.Placement.{Placement}
use Rattle.geometry.specs.Rounded.{◌⊕◌, ◌⊗◌}

abbrev pub vec : Float → Float → DVec2
vec x y = record { x = x; y = y }

-- a placement by its two axes and its translation
abbrev pub from_cols : DVec2 → DVec2 → DVec2 → Placement
from_cols a b t = record { xx = a.x; xy = a.y; yx = b.x; yy = b.y; tx = t.x; ty = t.y }

abbrev pub zero_float : Float
zero_float = fin false 0 (pos 0)

abbrev pub one_float : Float
one_float = fin false 1 (pos 0)

unfoldable pub IDENTITY : Placement
IDENTITY = from_cols (vec one_float zero_float) (vec zero_float one_float) (vec zero_float zero_float)

-- the axes alone
unfoldable pub transform_vector2 : Placement → DVec2 → DVec2
transform_vector2 p v = vec (p.xx ⊗ v.x ⊕ p.yx ⊗ v.y) (p.xy ⊗ v.x ⊕ p.yy ⊗ v.y)

unfoldable pub transform_point2 : Placement → DVec2 → DVec2
transform_point2 p v = let w = transform_vector2 p v in vec (w.x ⊕ p.tx) (w.y ⊕ p.ty)

infixl 70 ◌·◌
unfoldable pub ◌·◌ : Placement → Placement → Placement
p · c =
    from_cols (transform_vector2 p (vec c.xx c.xy)) (transform_vector2 p (vec c.yx c.yy))
    (transform_point2 p (vec c.tx c.ty))
