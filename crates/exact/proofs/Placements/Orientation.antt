-- The product of two orientations, and of two placements, acts as one after the other. Assumes nothing.
use mathlib.Core.Path.{◌≡◌, refl, sym, ap, ◌∙◌, subst}
use mathlib.Core.Bool.{Bool, true, false, cond}
use native.Mathlib.Omega.{arith}
use Rattle.exact.specs.Integer.{Integer, ◌⊕◌, negate_if, ◌≐◌}
use Rattle.exact.specs.Placement.{Vector, ◌⊹◌, ◌≐ᵛ◌, Orientation, orient, not_if, ◌∘ᵒ◌, ExactPlacement, move, ◌∘◌}

negate_compose : (m n : Bool) (a : Integer) → negate_if (not_if m n) a ≡ negate_if m (negate_if n a)
negate_compose false n a = refl
negate_compose true false a = refl
negate_compose true true a = refl

swap_compose : (s t m n : Bool) (a b : Integer)
    → negate_if (cond s m n) (cond (not_if s t) b a) ≡ cond s (negate_if m (cond t a b)) (negate_if n (cond t b a))
swap_compose false t m n a b = refl
swap_compose true false m n a b = refl
swap_compose true true m n a b = refl

coordinate_compose : (k s t m n : Bool) (a b : Integer)
    → negate_if (not_if k (cond s m n)) (cond (not_if s t) b a) ≡ negate_if k (cond s (negate_if m (cond t a b)) (negate_if n (cond t b a)))
coordinate_compose k s t m n a b = negate_compose k (cond s m n) (cond (not_if s t) b a) ∙ ap (negate_if k) (swap_compose s t m n a b)

pub orient_compose : (p c : Orientation) (v : Vector) → orient (p ∘ᵒ c) v ≡ orient p (orient c v)
orient_compose p c v = λ i. record {
  x = coordinate_compose p.negate_x p.swapped c.swapped c.negate_y c.negate_x v.x v.y i;
  y = coordinate_compose p.negate_y p.swapped c.swapped c.negate_x c.negate_y v.y v.x i;
}

-- ---- placements
pub move_same : (T : ExactPlacement) (u v : Vector) → u ≐ᵛ v → move T u ≐ᵛ move T v
move_same T u v h =
    let o = T.orientation in
    record {
      x = coordinate o.negate_x o.swapped u.y u.x v.y v.x T.translation.x h.y h.x;
      y = coordinate o.negate_y o.swapped u.x u.y v.x v.y T.translation.y h.x h.y;
    }
  where
    coordinate : (n s : Bool) (a b c d t : Integer) → a ≐ c → b ≐ d → negate_if n (cond s a b) ⊕ t ≐ negate_if n (cond s c d) ⊕ t
    coordinate false false a b c d t h k = omega arith
    coordinate false true a b c d t h k = omega arith
    coordinate true false a b c d t h k = omega arith
    coordinate true true a b c d t h k = omega arith

pub move_compose : (P C : ExactPlacement) (v : Vector) → move P (move C v) ≐ᵛ move (P ∘ C) v
move_compose P C v =
    let o = P.orientation in
    subst (λ (u : Vector). orient o (orient C.orientation v ⊹ C.translation) ⊹ P.translation ≐ᵛ u ⊹ move P C.translation)
    (sym (orient_compose o C.orientation v)) (record {
      x = coordinate o.negate_x o.swapped _ _ _ _ P.translation.x;
      y = coordinate o.negate_y o.swapped _ _ _ _ P.translation.y;
    })
  where
    coordinate : (n s : Bool) (a b c d t : Integer)
        → negate_if n (cond s (a ⊕ c) (b ⊕ d)) ⊕ t ≐ negate_if n (cond s a b) ⊕ (negate_if n (cond s c d) ⊕ t)
    coordinate false false a b c d t = omega arith
    coordinate false true a b c d t = omega arith
    coordinate true false a b c d t = omega arith
    coordinate true true a b c d t = omega arith
