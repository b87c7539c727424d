-- TESTS OF MANY: of every entry of a list of offsets, of the numbers below a number, of what may be missing; and what a passed test gives. With them a property of a sheet's records is
-- one computation on its bytes.
-- Assumes nothing.
use mathlib.Core.Path.{◌≡◌, refl, sym, subst}
use mathlib.Core.Logic.{◌⊎◌, inl, inr}
use mathlib.Core.Bool.{Bool, true, false, ◌&&◌, ◌||◌}
use mathlib.Core.List.{List, [], ◌∷◌}
use mathlib.Core.Option.{Option, none, some}
use Prim.Native.Nat.{ℕ, zero, suc, ◌<◌}
use native.Mathlib.Omega.{arith}
use lib.ListN.{get_elem?}
use lib.Dec.{eqb}
use lib.Dec.{T as Yes}
use borrow.Author.Tests.{eqb-true, eqb-false}
use Rattle.walk.specs.Find.{answer}
use Rattle.abstract_sheet.specs.Sheet.{read}

abbrev pub every : {A : Type 0} → (A → Bool) → List A → Bool
every t [] = true
every t (a ∷ l) = t a && every t l

abbrev pub every_below : (ℕ → Bool) → ℕ → Bool
every_below t zero = true
every_below t (suc n) = t n && every_below t n

abbrev pub some_below : (ℕ → Bool) → ℕ → Bool
some_below t zero = false
some_below t (suc n) = t n || some_below t n

abbrev pub if_there : {A : Type 0} → (A → Bool) → Option A → Bool
if_there t none = true
if_there t (some a) = t a

pub both : (a b : Bool) → Yes (a && b) → Yes a × Yes b
both true b h = (tt, h)
both false b h = absurd h

pub either : (a b : Bool) → Yes (a || b) → Yes a ⊎ Yes b
either true b h = inl tt
either false b h = inr h

pub of_every : {A : Type 0} (f : ℕ → A) (t : A → Bool) (l : List ℕ) → Yes (every (λ (at : ℕ). t (f at)) l) → (n : ℕ) (x : A) → read f (answer (get_elem? l n)) ≡ some x → Yes (t x)
unfolding answer
of_every f t [] h n x e = absurd (let z : ◌≡◌ {A = ℕ} 0 1 = cc in let y : ⊥ = omega arith in y)
of_every f t (a ∷ l) h zero x e = subst (λ y. Yes (t y)) (let z : f a ≡ x = cc in z) (both (t (f a)) _ h).0
of_every f t (a ∷ l) h (suc n) x e = of_every f t l (both (t (f a)) _ h).1 n x e

pub of_every_below : (t : ℕ → Bool) (n : ℕ) → Yes (every_below t n) → (i : ℕ) → i < n → Yes (t i)
of_every_below t zero h i i< = absurd (let y : ⊥ = omega arith in y)
of_every_below t (suc n) h i i< = by (eqb i n) refl (λ k. of_every_below t n (both (t n) _ h).1 i k)
  where
    by : (b : Bool) → eqb i n ≡ b → (i < n → Yes (t i)) → Yes (t i)
    by true e g = subst (λ (j : ℕ). Yes (t j)) (sym (eqb-true i n e)) (both (t n) _ h).0
    by false e g = let ne = eqb-false i n e in g (omega (arith, ne))

pub of_some_below : (t : ℕ → Bool) (n : ℕ) → Yes (some_below t n) → (i : ℕ) × (i < n) × Yes (t i)
of_some_below t zero h = absurd h
of_some_below t (suc n) h = by (t n) refl (of_some_below t n) h
  where
    by : (b : Bool) → t n ≡ b → (Yes (some_below t n) → (i : ℕ) × (i < n) × Yes (t i)) → Yes (b || some_below t n) → (i : ℕ) × (i < suc n) × Yes (t i)
    by true e g h = (n, omega arith, subst Yes (sym e) tt)
    by false e g h = let r = g h in (r.0, (let k = r.1 in omega arith), r.2)

pub of_there : {A : Type 0} (t : A → Bool) (o : Option A) (x : A) → Yes (if_there t o) → o ≡ some x → Yes (t x)
of_there t none x h e = absurd (let z : ◌≡◌ {A = ℕ} 0 1 = cc in let y : ⊥ = omega arith in y)
of_there t (some a) x h e = subst (λ y. Yes (t y)) (let z : a ≡ x = cc in z) h
