-- A key among hidden layers, as the library's `any` looks for it.
-- Assumes nothing.
use mathlib.Core.Path.{◌≡◌, refl, ap}
use mathlib.Core.Bool.{Bool, ◌||◌}
use mathlib.Core.List.{List, [], ◌∷◌}
use Prim.Native.Nat.{ℕ}
use lib.Dec.{eqb}
use Rattle.std.specs.List.{list_any}
use Rattle.plan_rules.specs.World.{contains}

pub any_contains : (xs : List ℕ) (key : ℕ) → list_any (λ x. eqb x key) xs ≡ contains xs key
unfolding contains
any_contains [] key = refl
any_contains (x ∷ xs) key = ap (λ (b : Bool). eqb x key || b) (any_contains xs key)
