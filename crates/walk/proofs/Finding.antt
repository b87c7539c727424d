-- The steps by which a walk finds a record by its number, which numbers are found, and how a record adds to the count of its kind.
-- Assumes nothing.
use mathlib.Core.Path.{◌≡◌, refl, ap}
use Prim.Native.Nat.{ℕ, zero, suc, ◌+◌, ◌-◌, ◌≤◌, ◌<◌}
use native.Mathlib.Omega.{arith}
use mathlib.Core.List.{List, [], ◌∷◌}
use mathlib.Core.Bool.{Bool, true, false, cond}
use mathlib.Core.Option.{Option, none, some}
use lib.ListN.{length, get_elem?}
use lib.Dec.{eqb}
use borrow.Author.Tests.{eq-eqb, ne_eqb}
use Rattle.walk.specs.Offsets.{max_sheet_bytes, kind_at, offsets_from}
use Rattle.walk.proofs.Offsets.{offsets_within, by_order}
use Rattle.walk.specs.Find.{Found}
use Rattle.std.specs.Prelude.{Some, None}
use Rattle.walk.specs.Find.{answer, count_in, count_of, find, find_in, of_kind, of_kind_in}

pub find_nil : (s : List ℕ) (kind n : ℕ) → find_in s kind n [] ≡ None
unfolding find_in of_kind_in answer
find_nil s kind n = refl

module _ (s : List ℕ) (kind at : ℕ) (xs : List ℕ) where
  pub find_hit : kind_at s at ≡ kind → find_in s kind 0 (at ∷ xs) ≡ Some at
  unfolding find_in of_kind_in answer
  find_hit e = rw (eq-eqb _ _ e)

  pub find_next : (n : ℕ) → kind_at s at ≡ kind → (n ≡ 0 → ⊥) → find_in s kind n (at ∷ xs) ≡ find_in s kind (n - 1) xs
  unfolding find_in of_kind_in answer
  find_next zero e k = absurd (k refl)
  find_next (suc n) e k = let q : suc n - 1 ≡ n = omega arith in rw (eq-eqb _ _ e, q)

  pub find_other : (n : ℕ) → (kind_at s at ≡ kind → ⊥) → find_in s kind n (at ∷ xs) ≡ find_in s kind n xs
  unfolding find_in of_kind_in
  find_other n e = rw (ne_eqb _ _ e)

-- what is found from an offset on
abbrev pub find_from : List ℕ → ℕ → ℕ → ℕ → Found
find_from s kind n at = find_in s kind n (offsets_from s at)

-- in a sheet a walk begins at its start
pub find_start : (s : List ℕ) (kind n : ℕ) → length s ≤ max_sheet_bytes → find_from s kind n 0 ≡ find s kind n
find_start s kind n h = rw (offsets_within s h) refl

answer_at : (o : Option ℕ) (at : ℕ) → answer o ≡ Some at → o ≡ some at
unfolding answer
answer_at none at e = let z : ◌≡◌ {A = ℕ} 0 1 = cc in absurd (omega arith)
answer_at (some x) at e = let q : x ≡ at = cc in ap some q

-- the n-th record of a kind is where the walk finds it
pub found_at : (s : List ℕ) (kind n at : ℕ) → find s kind n ≡ Some at → get_elem? (of_kind s kind) n ≡ some at
unfolding find_in
found_at s kind n at e = answer_at (get_elem? (of_kind s kind) n) at e

nth_some : (xs : List ℕ) (n : ℕ) → n < length xs → (at : ℕ) × (answer (get_elem? xs n) ≡ Some at)
unfolding answer
nth_some [] n h = absurd (omega arith)
nth_some (x ∷ xs) zero h = (x, refl)
nth_some (x ∷ xs) (suc n) h = nth_some xs n (omega arith)

nth_none : (xs : List ℕ) (n : ℕ) → length xs ≤ n → answer (get_elem? xs n) ≡ None
unfolding answer
nth_none [] n h = refl
nth_none (x ∷ xs) zero h = absurd (omega arith)
nth_none (x ∷ xs) (suc n) h = nth_none xs n (omega arith)

-- numbers below the count of their kind are found, and others are not
module _ (s : List ℕ) (kind n : ℕ) where
  pub find_some : n < count_of s kind → (at : ℕ) × (find s kind n ≡ Some at)
  unfolding find_in
  find_some h = nth_some (of_kind s kind) n h

  pub find_none : count_of s kind ≤ n → find s kind n ≡ None
  unfolding find_in
  find_none h = nth_none (of_kind s kind) n h

  pub found_below : (at : ℕ) → find s kind n ≡ Some at → n < count_of s kind
  found_below at e =
      by_order (count_of s kind) n
      (λ h. let z : ◌≡◌ {A = ℕ} 0 1 = cc (find_none h) in absurd (omega arith))
      (λ h. h)

-- a record adds one to the count of its kind
pub count_step : (s : List ℕ) (kind at : ℕ) (xs : List ℕ) → count_in s kind (at ∷ xs) ≡ cond (eqb (kind_at s at) kind) 1 0 + count_in s kind xs
unfolding of_kind_in
count_step s kind at xs = by_kind (eqb (kind_at s at) kind)
  where
    by_kind : (b : Bool) → length (cond b (at ∷ of_kind_in s kind xs) (of_kind_in s kind xs)) ≡ cond b 1 0 + count_in s kind xs
    by_kind true = omega arith
    by_kind false = omega arith
