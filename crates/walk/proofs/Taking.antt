-- A step of a walk: the record that it gives is the first of those ahead, and it leaves the others ahead.
-- Assumes nothing.
use mathlib.Core.Path.{◌≡◌, refl, ap, subst}
use Prim.Native.Nat.{ℕ}
use native.Mathlib.Omega.{arith}
use mathlib.Core.List.{List, [], ◌∷◌}
use Rattle.walk.specs.declared.heads.Head.{Head}
use Rattle.walk.specs.Offsets.{kind_at}
use Rattle.walk.specs.Heads.{head_at, heads_at}

-- h was the first of the records at xs, and those at `ahead` are left
pub record Took (s : List ℕ) (xs : List ℕ) (h : Head) (more : List Head) : Type 0 where
  pub ahead : List ℕ
  pub first : xs ≡ h.at ∷ ahead
  pub kind : h.kind ≡ kind_at s h.at
  pub rest : more ≡ heads_at s ahead

module _ (s : List ℕ) where
  pub took : (xs : List ℕ) (h : Head) (more : List Head) → heads_at s xs ≡ h ∷ more → Took s xs h more
  took [] h more e = let z : ◌≡◌ {A = ℕ} 0 1 = cc in absurd (omega arith)
  took (x ∷ xs) h more e =
      let same : head_at s x ≡ h = cc in
      let others : more ≡ heads_at s xs = cc in
      record {
        ahead = xs;
        first = ap (λ (g : Head). g.at ∷ xs) same;
        kind = subst (λ (g : Head). g.kind ≡ kind_at s g.at) same refl;
        rest = others;
      }

  pub none_left : (xs : List ℕ) → heads_at s xs ≡ [] → xs ≡ []
  none_left [] e = refl
  none_left (x ∷ xs) e = let z : ◌≡◌ {A = ℕ} 0 1 = cc in absurd (omega arith)
