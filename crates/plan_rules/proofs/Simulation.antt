-- ONE INDUCTION over the rules, for every statement that two runs agree, that something is kept, or that what an event says is so:
-- a relation R between what two runs sent their events to, which each event keeps, is kept by every visit (a simulation).
-- This file has the relation between worlds and what it keeps; `Simulation.Premises` what a rule knows when it speaks; `Simulation.Visits` the induction.
-- Assumes nothing.
pub mod Premises
pub mod Visits
use mathlib.Core.Path.{◌≡◌, refl}
use mathlib.Core.Bool.{Bool, true, false, not, cond}
use mathlib.Core.List.{List}
use Prim.Native.Nat.{ℕ, zero, suc, ◌+◌, ◌<◌}
use native.Mathlib.Omega.{arith}
use lib.Dec.{T as Yes}
use Rattle.plan_rules.specs.declared.ScenePlan.{ScenePlan}
use Rattle.plan_rules.specs.World.{World, world, Flow, go, halt, bind, ending, each}

-- ---- related worlds: the same state and scratch, and R between what the events were sent to

pub data Related {A B : Type 0} (R : ScenePlan → A → B → Type 0) : World A → World B → Type 0 where
  related : {s : ScenePlan} {a : A} {b : B} {k m : List ℕ} → R s a b → Related R (world s a k m) (world s b k m)

pub data RelatedFlow {A B : Type 0} (R : ScenePlan → A → B → Type 0) : Flow A → Flow B → Type 0 where
  goes : {w : World A} {v : World B} → Related R w v → RelatedFlow R (go w) (go v)
  halts : {w : World A} {v : World B} → Related R w v → RelatedFlow R (halt w) (halt v)

module _ {A B : Type 0} (R : ScenePlan → A → B → Type 0) where
  pub the_relation : {w : World A} {v : World B} → Related R w v → R w.state w.out v.out
  the_relation (related r) = r

  pub same_state : {w : World A} {v : World B} → Related R w v → w.state ≡ v.state
  same_state (related r) = refl

  -- ---- what two steps keep

  -- from one state
  abbrev pub KeepsAt : ScenePlan → (World A → World A) → (World B → World B) → Type 0
  KeepsAt s f g = (a : A) (b : B) (k m : List ℕ) → R s a b → Related R (f (world s a k m)) (g (world s b k m))

  abbrev pub KeepsFlowAt : ScenePlan → (World A → Flow A) → (World B → Flow B) → Type 0
  KeepsFlowAt s f g = (a : A) (b : B) (k m : List ℕ) → R s a b → RelatedFlow R (f (world s a k m)) (g (world s b k m))

  -- from any state
  abbrev pub Keeps : (World A → World A) → (World B → World B) → Type 0
  Keeps f g = (s : ScenePlan) → KeepsAt s f g

  abbrev pub KeepsFlow : (World A → Flow A) → (World B → Flow B) → Type 0
  KeepsFlow f g = (s : ScenePlan) → KeepsFlowAt s f g

  pub apply_sim : {w : World A} {v : World B} (f : World A → World A) (g : World B → World B) → Keeps f g → Related R w v → Related R (f w) (g v)
  apply_sim f g h (related {s} {a} {b} {k} {m} r) = h s a b k m r

  pub apply_flow_sim : {w : World A} {v : World B} (f : World A → Flow A) (g : World B → Flow B) → KeepsFlow f g → Related R w v → RelatedFlow R (f w) (g v)
  apply_flow_sim f g h (related {s} {a} {b} {k} {m} r) = h s a b k m r

  pub cond_sim : (t : Bool) {w w' : World A} {v v' : World B} → (Yes t → Related R w v) → (Yes (not t) → Related R w' v') → Related R (cond t w w') (cond t v v')
  cond_sim true h g = h tt
  cond_sim false h g = g tt

  pub cond_flow_sim : (t : Bool) {w w' : Flow A} {v v' : Flow B} → (Yes t → RelatedFlow R w v) → (Yes (not t) → RelatedFlow R w' v') → RelatedFlow R (cond t w w') (cond t v v')
  cond_flow_sim true h g = h tt
  cond_flow_sim false h g = g tt

  pub bind_sim : {x : Flow A} {y : Flow B} (f : World A → Flow A) (g : World B → Flow B) → KeepsFlow f g → RelatedFlow R x y → RelatedFlow R (bind x f) (bind y g)
  bind_sim f g k (goes h) = apply_flow_sim f g k h
  bind_sim f g k (halts h) = halts h

  pub ending_sim : {x : Flow A} {y : Flow B} → RelatedFlow R x y → Related R (ending x) (ending y)
  ending_sim (goes h) = h
  ending_sim (halts h) = h

  -- a loop over all places of a list
  each_from_sim : (f : ℕ → World A → Flow A) (g : ℕ → World B → Flow B) (count : ℕ) → ((i : ℕ) → i < count → KeepsFlow (f i) (g i)) → (n i : ℕ) → i + n ≡ count → KeepsFlow (each f n i) (each g n i)
  unfolding each
  each_from_sim f g count h zero i e s a b k m r = goes (related r)
  each_from_sim f g count h (suc n) i e s a b k m r = bind_sim (each f n (i + 1)) (each g n (i + 1)) (each_from_sim f g count h n (i + 1) (omega arith)) (h i (omega arith) s a b k m r)

  pub each_sim : (f : ℕ → World A → Flow A) (g : ℕ → World B → Flow B) (count : ℕ) → ((i : ℕ) → i < count → KeepsFlow (f i) (g i)) → KeepsFlow (each f count 0) (each g count 0)
  each_sim f g count h = each_from_sim f g count h count 0 (omega arith)
