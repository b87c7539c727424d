-- A loop whose turns go on by different steps adds records with different tags: the step behind a tag is determined by any tag below it.
-- Assumes nothing.
use mathlib.Core.Path.{◌≡◌, refl, sym, ap, ◌∙◌}
use mathlib.Core.Bool.{Bool, cond}
use mathlib.Core.List.{List, [], ◌∷◌, ◌++◌, append_assoc}
use Prim.Native.Nat.{ℕ, zero, suc, ◌+◌, ◌≤◌, ◌<◌}
use native.Mathlib.Omega.{arith}
use lib.Dec.{eqb}
use lib.ListN.{length, length-append}
use borrow.Author.Tests.{eq-eqb, ne_eqb}
use Rattle.plan_rules.specs.Event.{Step, point_at}
use Rattle.plan_rules.specs.World.{World, Flow, each}
use Rattle.cover.proofs.TagPaths.{Tagged}
use Rattle.cover.proofs.Once.Adds.{AddsFlow, adds_nothing, bind_adds}

-- ---- tags that go on from a tag

abbrev pub Under : List Step → List Step → Type 0
Under t x = (r : List Step) × (x ≡ r ++ t)

pub under_self : (t : List Step) → Under t t
under_self t = ([], refl)

pub under_up : (m : Step) (t x : List Step) → Under (m ∷ t) x → Under t x
under_up m t x k = (k.0 ++ (m ∷ []), k.1 ∙ sym (append_assoc k.0 (m ∷ []) t))

-- the step behind the n steps next to the root
step_at : ℕ → List Step → Step
step_at n [] = point_at 0
step_at n (s ∷ l) = cond (eqb (length l) n) s (step_at n l)

step_behind : (r : List Step) (m : Step) (t : List Step) → step_at (length t) (r ++ (m ∷ t)) ≡ m
unfolding step_at
step_behind [] m t = ap (λ (c : Bool). cond c m (step_at (length t) t)) (eq-eqb (length t) (length t) refl)
step_behind (s ∷ r) m t =
    let n = length-append r (m ∷ t) in
    ap (λ (c : Bool). cond c s (step_at (length t) (r ++ (m ∷ t)))) (ne_eqb (length (r ++ (m ∷ t))) (length t) (λ e. let z : ⊥ = omega arith in z)) ∙ step_behind r m t

pub same_step : (m k : Step) (t x : List Step) → Under (m ∷ t) x → Under (k ∷ t) x → m ≡ k
same_step m k t x a b = sym (step_behind a.0 m t) ∙ ap (step_at (length t)) (sym a.1 ∙ b.1) ∙ step_behind b.0 k t

-- ---- loops

-- below a step c j of the tag t, j being i or more
abbrev pub From : (ℕ → Step) → List Step → ℕ → List Step → Type 0
From c t i x = (j : ℕ) × (i ≤ j) × Under (c j ∷ t) x

pub from_under : (c : ℕ → Step) (t : List Step) (i : ℕ) (x : List Step) → From c t i x → Under t x
from_under c t i x k = under_up (c k.0) t x k.2

pub each_adds : (K : ℕ → List Step → Type 0) → ((i j : ℕ) (x : List Step) → i < j → K i x → K j x → ⊥) → (f : ℕ → World Tagged → Flow Tagged) → ((i : ℕ) → AddsFlow (K i) (f i))
    → (n i : ℕ) → AddsFlow (λ (x : List Step). (j : ℕ) × (i ≤ j) × K j x) (each f n i)
unfolding each
each_adds K apart f h zero i w = adds_nothing (λ (x : List Step). (j : ℕ) × (i ≤ j) × K j x) w.out
each_adds K apart f h (suc n) i w =
    bind_adds (K i) (λ (x : List Step). (j : ℕ) × (i + 1 ≤ j) × K j x) (λ (x : List Step). (j : ℕ) × (i ≤ j) × K j x) w.out (f i w) (each f n (i + 1))
    (λ x k. (i, omega arith, k)) (λ x k. let l = k.1 in (k.0, omega arith, k.2)) (λ x k m. let l = m.1 in apart i m.0 x (omega arith) k m.2) (h i w) (each_adds K apart f h n (i + 1))

pub steps_add : (c : ℕ → Step) → ((i j : ℕ) → c i ≡ c j → i ≡ j) → (t : List Step) (f : ℕ → World Tagged → Flow Tagged) → ((i : ℕ) → AddsFlow (Under (c i ∷ t)) (f i)) → (n i : ℕ) → AddsFlow (From c t i) (each f n i)
steps_add c inj t f h = each_adds (λ (i : ℕ) (x : List Step). Under (c i ∷ t) x) (λ i j x l a b. let e = inj i j (same_step (c i) (c j) t x a b) in let z : ⊥ = omega arith in z) f h
