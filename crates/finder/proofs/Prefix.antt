-- When a list starts with another: by an equation of lists, and place by place.
-- Assumes nothing.
use mathlib.Core.Path.{◌≡◌, refl, sym, ap, subst, ◌∙◌}
use mathlib.Core.Bool.{true, false, not-eq-not}
use mathlib.Core.List.{List, [], ◌∷◌, ◌++◌}
use Prim.Native.Nat.{ℕ, suc, ◌<◌}
use native.Mathlib.Omega.{arith}
use lib.ListN.{length, get_or, drop, length-append, get_or-append}
use lib.Dec.{T}
use borrow.Author.Tests.{eqb-true, eq-eqb}
use Rattle.check_record.proofs.Tests.{both_true, both_first, both_second}
use Rattle.finder.specs.Finder.{starts_with}

-- ---- By an equation

pub starts_with_lem : (f l : List ℕ) → starts_with f l ≡ true → f ≡ l ++ drop (length l) f
unfolding starts_with
starts_with_lem f [] e = refl
starts_with_lem [] (x ∷ xs) e = absurd (subst T (sym e) tt)
starts_with_lem (y ∷ ys) (x ∷ xs) e = λ i. eqb-true y x (both_first _ _ e) i ∷ starts_with_lem ys xs (both_second _ _ e) i

pub append_starts : (l more : List ℕ) → starts_with (l ++ more) l ≡ true
unfolding starts_with
append_starts [] more = refl
append_starts (x ∷ xs) more = both_true (eq-eqb x x refl) (append_starts xs more)

-- ---- Place by place

-- a list has a place, and there the same number as another
pub record Same (f l : List ℕ) (i : ℕ) : Type 0 where
  pub within : i < length f
  pub same : get_or f i 0 ≡ get_or l i 0

pub starts_place : (f l : List ℕ) → starts_with f l ≡ true → (i : ℕ) → i < length l → Same f l i
starts_place f l e i h =
    let q = starts_with_lem f l e in
    record { within = omega (arith, ap length q, length-append l (drop (length l) f)); same = ap (λ (m : List ℕ). get_or m i 0) q ∙ get_or-append l _ 0 i h }

pub places_start : (f l : List ℕ) → ((i : ℕ) → i < length l → Same f l i) → starts_with f l ≡ true
unfolding starts_with
places_start f [] h = refl
places_start [] (x ∷ xs) h = let first = h 0 (omega arith) in absurd (omega arith)
places_start (y ∷ ys) (x ∷ xs) h =
    both_true (eq-eqb y x (h 0 (omega arith)).same)
    (places_start ys xs (λ i k. let next = h (suc i) (omega arith) in record { within = omega arith; same = next.same }))

-- where one place is not the same, the list does not start so
pub place_refutes : (f l : List ℕ) (i : ℕ) → i < length l → (Same f l i → ⊥) → starts_with f l ≡ false
place_refutes f l i h k = (not-eq-not {b = false}).0 (λ e. k (starts_place f l e i h))
