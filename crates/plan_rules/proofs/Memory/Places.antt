-- No two cells or layers share a place, and the places of the first layers are the first places.
-- Assumes nothing.
use mathlib.Core.Path.{◌≡◌, refl, sym, ap, ◌∙◌}
use mathlib.Core.Bool.{Bool, true, false}
use Prim.Native.Nat.{ℕ, suc, ◌+◌, ◌*◌, ◌≤◌, ◌<◌}
use native.Mathlib.Nat.{mul-le-mul_right, suc-mul}
use native.Mathlib.Omega.{arith}
use lib.Dec.{ltb}
use borrow.Author.Tests.{ltb-true, ltb-false}
use Rattle.plan_rules.specs.Scratch.{place}

next_layer : (n l k : ℕ) → l < k → l * n + n ≤ k * n
next_layer n l k h = let p : suc l * n ≤ k * n = mul-le-mul_right n h in omega (arith, suc-mul l n)

-- a cell's place in one of the first k layers
pub place_below : (n l k c : ℕ) → l < k → c < n → place n l c < k * n
unfolding place
place_below n l k c h g = omega (arith, next_layer n l k h)

layer_apart : (n l k c x : ℕ) → c < n → l < k → place n l c ≡ place n k x → ⊥
unfolding place
layer_apart n l k c x hc h e = omega (arith, next_layer n l k h)

cell_apart : (n l c x : ℕ) → (c ≡ x → ⊥) → place n l c ≡ place n l x → ⊥
unfolding place
cell_apart n l c x h e = h (omega arith)

pub places_apart : (n l k x c : ℕ) → x < n → c < n → (l ≡ k → x ≡ c → ⊥) → place n l x ≡ place n k c → ⊥
places_apart n l k x c hx hc h e = by (ltb l k) refl (ltb k l) refl
  where
    by : (s : Bool) → ltb l k ≡ s → (t : Bool) → ltb k l ≡ t → ⊥
    by true f t g = layer_apart n l k x c hx (ltb-true l k f) e
    by false f true g = layer_apart n k l c x hc (ltb-true k l g) (sym e)
    by false f false g =
        let z : l ≡ k = let a : k ≤ l = ltb-false l k f in let b : l ≤ k = ltb-false k l g in omega arith in
        cell_apart n k x c (h z) (ap (λ (j : ℕ). place n j x) (sym z) ∙ e)
