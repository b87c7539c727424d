-- A FACT OF EVERY EVENT of a plan: one use of the rules' induction, with the way from the root as the tag. The second run of the induction sends its events nowhere.
-- Assumes nothing.
use mathlib.Core.Path.{◌≡◌, sym, subst}
use mathlib.Core.List.{List, []}
use Prim.Native.Nat.{ℕ}
use Rattle.geometry.specs.declared.placement.Placement.{Placement}
use Rattle.geometry.specs.Placement.{IDENTITY}
use Rattle.records.specs.declared.PreparedSource.{PreparedSource}
use Rattle.records.specs.declared.PreparedSource.TheVariants.{Cell}
use Rattle.abstract_sheet.specs.Sheet.{Sheet}
use Rattle.plan_rules.specs.declared.ScenePlan.{ScenePlan}
use Rattle.plan_rules.specs.Event.{Event, totals, Step, after}
use Rattle.plan_rules.specs.World.{Query, World}
use Rattle.plan_rules.specs.Plan.{plan}
use Rattle.plan_rules.specs.Tape.{note}
use Rattle.plan_rules.proofs.Simulation.{the_relation}
use Rattle.plan_rules.proofs.Simulation.Premises.{Room, Premises}
use Rattle.plan_rules.proofs.Simulation.Visits.{plan_sim}
use Rattle.cover.specs.Trace.{enter, All, none_left, and_then}
use Rattle.cover.proofs.TagPaths.{Tagged}

module _ (S : Sheet) (q : Query) (Stands : ℕ → List Step → PreparedSource → Placement → Type 0) (Fact : List Step → Event → Type 0) (premises : Premises enter S q Stands Fact) where
  abbrev AllFacts : ScenePlan → Tagged → Unit {0} → Type 0
  AllFacts s a b = All (λ (x : List Step × Event). Fact x.0 x.1) a

  abbrev silent : Unit {0} → Event → ℕ → Unit {0} → Unit {0}
  silent t e at u = tt

  keeps : (ta : List Step) (tb : Unit {0}) (e : Event) → Fact ta e → (s : ScenePlan) → Room q s e → (a : Tagged) (b : Unit {0}) → AllFacts s a b → AllFacts (after e s) (note ta e s.tape_end a) (silent tb e s.tape_end b)
  keeps ta tb e ok s room a b r = and_then ok r

  pub every_event : ((u : ScenePlan) → Fact [] (totals u)) → Stands q.depth [] (Cell q.root) IDENTITY → (cells : ℕ) (w : World Tagged) → w.out ≡ []
      → All (λ (x : List Step × Event). Fact x.0 x.1) (plan enter note S cells q [] w).out
  every_event ok stands cells w e =
      the_relation AllFacts (plan_sim enter (λ s t. tt) note silent S cells q AllFacts Stands Fact premises keeps [] tt ok stands
      w.state w.out tt w.counts w.marks (subst (λ (l : Tagged). AllFacts w.state l tt) (sym e) none_left))
