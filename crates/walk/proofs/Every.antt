-- Facts of every record of a sheet, and of the one that is found.
-- Assumes nothing.
use mathlib.Core.Path.{◌≡◌, refl, subst}
use Prim.Native.Nat.{ℕ, zero, suc, ◌+◌, ◌≤◌, ◌<◌}
use native.Mathlib.Omega.{arith}
use mathlib.Core.List.{List, [], ◌∷◌}
use mathlib.Core.Bool.{Bool, true, false, cond}
use mathlib.Core.Option.{some}
use lib.ListN.{length, get_elem?}
use lib.Dec.{eqb}
use borrow.Author.Tests.{eqb-true}
use Rattle.walk.specs.Offsets.{length_at, kind_at, offsets_from, offsets}
use Rattle.walk.proofs.Offsets.{by_order, offsets_more, offsets_bad}
use Rattle.walk.specs.Find.{of_kind_in, of_kind, find}
use Rattle.walk.proofs.Finding.{found_at}
use Rattle.std.specs.Prelude.{Some}
use Rattle.walk.specs.Every.{All}

-- where a fact of a record says that it has its head, it holds of the record at hand, and of those after it
pub all_step : (s : List ℕ) (P : ℕ → Type 0) (at : ℕ) → (P at → 6 ≤ length_at s at) → All P (offsets_from s at) → at < length s
    → P at × All P (offsets_from s (at + length_at s at))
all_step s P at g h k =
    by_order 6 (length_at s at)
    (λ m. subst (All P) (offsets_more s at k m) h)
    (λ m.
    let w : 6 ≤ length_at s at = g (subst (All P) (offsets_bad s at k m) h).0 in
    absurd (omega arith))

-- what all records have, those of a kind have, and they are of the kind
module _ (s : List ℕ) (kind : ℕ) (P : ℕ → Type 0) where
  abbrev Both : ℕ → Type 0
  Both at = P at × (kind_at s at ≡ kind)

  pub all_of_kind : (xs : List ℕ) → All P xs → All Both (of_kind_in s kind xs)
  unfolding of_kind_in
  all_of_kind [] h = tt
  all_of_kind (x ∷ xs) h = by_kind (all_of_kind xs h.1) (eqb (kind_at s x) kind) refl
    where
      by_kind : All Both (of_kind_in s kind xs) → (b : Bool) → eqb (kind_at s x) kind ≡ b → All Both (cond b (x ∷ of_kind_in s kind xs) (of_kind_in s kind xs))
      by_kind more true e = ((h.0, eqb-true _ _ e), more)
      by_kind more false e = more

all_nth : (P : ℕ → Type 0) (xs : List ℕ) (n at : ℕ) → All P xs → get_elem? xs n ≡ some at → P at
all_nth P [] n at h e = let z : ◌≡◌ {A = ℕ} 0 1 = cc in absurd (omega arith)
all_nth P (x ∷ xs) zero at h e = let q : x ≡ at = cc in subst P q h.0
all_nth P (x ∷ xs) (suc n) at h e = all_nth P xs n at h.1 e

-- what is found has what all records have, and is of the kind
pub find_all : (s : List ℕ) (kind n at : ℕ) (P : ℕ → Type 0) → All P (offsets s) → find s kind n ≡ Some at → P at × (kind_at s at ≡ kind)
find_all s kind n at P h e = all_nth _ (of_kind s kind) n at (all_of_kind s kind P (offsets s) h) (found_at s kind n at e)
