-- Tests of the rules, taken apart. Assumes nothing.
use mathlib.Core.Path.{◌≡◌}
use mathlib.Core.Bool.{Bool, true, false, not, ◌||◌, cond}
use mathlib.Core.List.{List, [], ◌∷◌}
use Prim.Native.Nat.{ℕ, ◌<◌}
use lib.Dec.{leb, eqb, eqb→eq, nleb→lt}
use lib.Dec.{T as Yes}
use lib.Ieee.{Float}
use Rattle.std.specs.Prelude.{Some}
use Rattle.screen.specs.declared.CollapseTest.TheVariants as test
use Rattle.screen.specs.Screen.{FirstMet, collapse_test, collapses}
use Rattle.plan_rules.specs.World.{contains}
use Rattle.cover.specs.View.{Lacks}

pub cond_case : {X : Type 0} (Q : X → Type 0) (c : Bool) (x y : X) → (Yes c → Q x) → (Yes (not c) → Q y) → Q (cond c x y)
cond_case Q true x y f g = f tt
cond_case Q false x y f g = g tt

pub not_not : (b : Bool) → Yes b → Yes (not b) → ⊥
not_not true p q = q
not_not false p q = p

-- what the hidden layers lack is not hidden
pub lacks_not_contains : (l : List ℕ) (key : ℕ) → Lacks l key → Yes (contains l key) → ⊥
unfolding contains
lacks_not_contains [] key h t = t
lacks_not_contains (x ∷ l) key h t = by (eqb x key) (eqb→eq x key) (lacks_not_contains l key h.1) t
  where
    by : (b : Bool) → (Yes b → x ≡ key) → (Yes (contains l key) → ⊥) → Yes (b || contains l key) → ⊥
    by true e f t = h.0 (e tt)
    by false e f t = f t

-- what is not collapsed is above depth 1
pub collapses_at_depth_1 : (width height : Float) (members units depth : ℕ) → Yes (not (collapses (collapse_test width height members units depth false))) → 1 < depth
unfolding collapse_test
collapses_at_depth_1 width height members units depth y = by (leb depth 1) (nleb→lt depth 1) _ y
  where
    by : (b : Bool) → (Yes (not b) → 1 < depth) → (c : FirstMet) → Yes (not (collapses (cond b (Some test.Depth) c))) → 1 < depth
    by true f c t = absurd t
    by false f c t = f tt
