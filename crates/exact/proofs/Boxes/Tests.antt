-- `overlaps` and `point_in_bbox` say yes where boxes of integers touch and hold, whatever their size. Assumes nothing.
use mathlib.Core.Bool.{Bool, true, ◌&&◌}
use lib.Dec.{T}
use lib.Ieee.{le}
use Rattle.geometry.specs.declared.placement.DVec2.{DVec2}
use Rattle.geometry.specs.declared.bbox.WorldBBox.{WorldBBox}
use Rattle.geometry.specs.Bbox.{overlaps, point_in_bbox}
use Rattle.exact.specs.Placement.{Vector, IsVector}
use Rattle.exact.specs.Box.{IntegerBox, Holds, Touches, IsBox}
use Rattle.exact.proofs.Floats.Order.{le_of_at_most}

all_four : (a b c d : Bool) → T a → T b → T c → T d → T (a && b && c && d)
all_four true true true true p q r s = tt
all_four mathlib.Core.Bool.false b c d p q r s = elim p [ ]
all_four true mathlib.Core.Bool.false c d p q r s = elim q [ ]
all_four true true mathlib.Core.Bool.false d p q r s = elim r [ ]
all_four true true true mathlib.Core.Bool.false p q r s = elim s [ ]

pub overlaps_exact : (a b : WorldBBox) (y z : IntegerBox) → IsBox a y → IsBox b z → Touches y z → T (overlaps a b)
unfolding overlaps
overlaps_exact a b y z p q h =
    all_four (le b.min_x a.max_x) (le a.min_x b.max_x) (le b.min_y a.max_y) (le a.min_y b.max_y)
    (le_of_at_most b.min_x a.max_x z.min_x y.max_x q.min_x p.max_x h.left)
    (le_of_at_most a.min_x b.max_x y.min_x z.max_x p.min_x q.max_x h.right)
    (le_of_at_most b.min_y a.max_y z.min_y y.max_y q.min_y p.max_y h.bottom)
    (le_of_at_most a.min_y b.max_y y.min_y z.max_y p.min_y q.max_y h.top)

pub point_in_bbox_exact : (p : DVec2) (b : WorldBBox) (v : Vector) (z : IntegerBox) → IsVector p v → IsBox b z → Holds z v
    → T (point_in_bbox p b)
unfolding point_in_bbox
point_in_bbox_exact p b v z i q h =
    all_four (le b.min_x p.x) (le p.x b.max_x) (le b.min_y p.y) (le p.y b.max_y)
    (le_of_at_most b.min_x p.x z.min_x v.x q.min_x i.x h.left)
    (le_of_at_most p.x b.max_x v.x z.max_x i.x q.max_x h.right)
    (le_of_at_most b.min_y p.y z.min_y v.y q.min_y i.y h.bottom)
    (le_of_at_most p.y b.max_y v.y z.max_y i.y q.max_y h.top)
