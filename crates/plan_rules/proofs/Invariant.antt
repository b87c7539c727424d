-- What every event keeps, every visit and every plan keeps: the induction of `Simulation` for one run. Last, what every event but the totals keeps.
-- Assumes nothing.
use mathlib.Core.Path.{◌≡◌}
use mathlib.Core.Bool.{false}
use mathlib.Core.Option.{some}
use Prim.Native.Nat.{ℕ, suc, ◌<◌}
use Rattle.geometry.specs.declared.bbox.WorldBBox.{WorldBBox}
use Rattle.geometry.specs.declared.bbox.Bounds.{Bounds}
use Rattle.geometry.specs.declared.placement.Placement.{Placement}
use Rattle.geometry.specs.Placement.{◌·◌}
use Rattle.geometry.specs.Bbox.{boxed}
use Rattle.grid.specs.Grid.{grid_member_transform}
use Rattle.records.specs.declared.PreparedSource.{PreparedSource}
use Rattle.records.specs.declared.PreparedReference.{PreparedReference}
use Rattle.abstract_sheet.specs.Sheet.{NodeRecord, CellRecord, Sheet}
use Rattle.plan_rules.specs.declared.ScenePlan.{ScenePlan}
use Rattle.plan_rules.specs.Event.{Event, Step, member, after}
use Rattle.plan_rules.specs.World.{Query, World, Flow, ending}
use Rattle.plan_rules.specs.Push.{push_point}
use Rattle.plan_rules.specs.Visit.{VisitReference, VisitSource, geometry_step, text_step, node_step, reference_step, visit_source_with, member_step, column_step, visit_reference}
use Rattle.plan_rules.specs.Plan.{visit_root, plan}
use Rattle.plan_rules.proofs.Simulation.{Keeps, KeepsFlow, the_relation, ending_sim}
use Rattle.plan_rules.proofs.Simulation.Premises.{Room, is_totals, visit_premises, no_premises}
use Rattle.plan_rules.proofs.Simulation.Visits as Visits

-- the second run stands nowhere and sends nothing
abbrev nowhere : Step → Unit {0} → Unit {0}
nowhere s t = tt

abbrev silent : Unit {0} → Event → ℕ → Unit {0} → Unit {0}
silent t e at u = tt

module _ {P A : Type 0} (enter : Step → P → P) (emit : P → Event → ℕ → A → A) (S : Sheet) (cells : ℕ) (q : Query) (I : ScenePlan → A → Type 0)
    (keeps : (t : P) (e : Event) (s : ScenePlan) → Room q s e → (a : A) → I s a → I (after e s) (emit t e s.tape_end a)) where
  -- the invariant of a world
  abbrev pub Holds : World A → Type 0
  Holds w = I w.state w.out

  abbrev R : ScenePlan → A → Unit {0} → Type 0
  R s a b = I s a

  abbrev Anywhere : ℕ → P → PreparedSource → Placement → Type 0
  Anywhere d t s p = Unit {0}

  abbrev Anything : P → Event → Type 0
  Anything t e = Unit {0}

  both : (ta : P) (tb : Unit {0}) (e : Event) → Unit {0} → (s : ScenePlan) → Room q s e → (a : A) (b : Unit {0}) → R s a b → R (after e s) (emit ta e s.tape_end a) (silent tb e s.tape_end b)
  both ta tb e ok s room a b r = keeps ta e s room a r

  one : (f : World A → World A) (g : World (Unit {0}) → World (Unit {0})) → Keeps R f g → (w : World A) → Holds w → Holds (f w)
  one f g k w h = the_relation R (k w.state w.out tt w.counts w.marks h)

  one_flow : (f : World A → Flow A) (g : World (Unit {0}) → Flow (Unit {0})) → KeepsFlow R f g → (w : World A) → Holds w → Holds (ending (f w))
  one_flow f g k w h = the_relation R (ending_sim R (k w.state w.out tt w.counts w.marks h))

  abbrev visits : ℕ → VisitReference enter emit S cells q
  visits d = visit_reference enter emit S cells q d

  abbrev blind : ℕ → VisitReference nowhere silent S cells q
  blind d = visit_reference nowhere silent S cells q d

  -- ---- a step of each loop

  pub point_kept : (t : P) (n : ℕ) (p : Placement) (x : NodeRecord) → S.node n ≡ some x → (j : ℕ) → j < x.count → (w : World A) → Holds w → Holds (ending (push_point enter emit S q t p x j w))
  point_kept t n p x e j j< =
      one_flow (push_point enter emit S q t p x j) (push_point nowhere silent S q tt p x j)
      (Visits.point_sim enter nowhere emit silent S cells q R Anywhere Anything (no_premises enter S q) both 0 t tt n p tt x e j j<)

  module _ (d : ℕ) (t : P) (n : ℕ) (c : CellRecord) (p : Placement) (box : Bounds) (e : S.cell n ≡ some c) where
    references : Visits.KeepsReferences enter nowhere emit silent S cells q R Anywhere Anything (no_premises enter S q) both d (visits d) (blind d)
    references = Visits.reference_sim enter nowhere emit silent S cells q R Anywhere Anything (no_premises enter S q) both d

    pub geometry_step_kept : (i : ℕ) → i < c.geometries.count → (w : World A) → Holds w → Holds (ending (geometry_step enter emit S cells q t n c p box i w))
    geometry_step_kept i i< =
        one_flow (geometry_step enter emit S cells q t n c p box i) (geometry_step nowhere silent S cells q tt n c p box i)
        (Visits.geometry_step_sim enter nowhere emit silent S cells q R Anywhere Anything (no_premises enter S q) both d (visits d) (blind d) references t tt n c p box tt e i i<)

    pub text_step_kept : (i : ℕ) → i < c.texts.count → (w : World A) → Holds w → Holds (ending (text_step enter emit S cells q t n c p box i w))
    text_step_kept i i< =
        one_flow (text_step enter emit S cells q t n c p box i) (text_step nowhere silent S cells q tt n c p box i)
        (Visits.text_step_sim enter nowhere emit silent S cells q R Anywhere Anything (no_premises enter S q) both d (visits d) (blind d) references t tt n c p box tt e i i<)

    pub node_step_kept : (i : ℕ) → i < c.nodes.count → (w : World A) → Holds w → Holds (ending (node_step enter emit S cells q t n c p box i w))
    node_step_kept i i< =
        one_flow (node_step enter emit S cells q t n c p box i) (node_step nowhere silent S cells q tt n c p box i)
        (Visits.node_step_sim enter nowhere emit silent S cells q R Anywhere Anything (no_premises enter S q) both d (visits d) (blind d) references t tt n c p box tt e i i<)

    pub reference_step_kept : (i : ℕ) → i < c.references.count → (w : World A) → Holds w → Holds (ending (reference_step enter emit S cells q t n c p box (visits d) i w))
    reference_step_kept i i< =
        one_flow (reference_step enter emit S cells q t n c p box (visits d) i) (reference_step nowhere silent S cells q tt n c p box (blind d) i)
        (Visits.reference_step_sim enter nowhere emit silent S cells q R Anywhere Anything (no_premises enter S q) both d (visits d) (blind d) references t tt n c p box tt e i i<)

  module _ (d : ℕ) (t : P) (n : ℕ) (r : PreparedReference) (p : Placement) (sb wb : WorldBBox) (e : S.reference n ≡ some r) (eb : r.source_bbox ≡ boxed sb) where
    abbrev sources : VisitSource enter emit S cells q
    sources = visit_source_with enter emit S cells q (visits d)

    abbrev blinds : VisitSource nowhere silent S cells q
    blinds = visit_source_with nowhere silent S cells q (blind d)

    members : Visits.KeepsMembers enter nowhere emit silent S cells q R Anywhere Anything (no_premises enter S q) both sources blinds t tt r p
    members x y x< y< =
        Visits.source_sim enter nowhere emit silent S cells q R Anywhere Anything (no_premises enter S q) both d (visits d) (blind d)
        (Visits.reference_sim enter nowhere emit silent S cells q R Anywhere Anything (no_premises enter S q) both d)
        (enter (member x y) t) tt r.source (p · grid_member_transform r.grid x y) tt

    pub member_kept : (u x : ℕ) → x < r.grid.columns → (y : ℕ) → y < r.grid.rows → (w : World A) → Holds w → Holds (ending (member_step enter emit S cells q sources (suc d) t r p sb wb u x y w))
    member_kept u x x< y y< =
        one_flow (member_step enter emit S cells q sources (suc d) t r p sb wb u x y) (member_step nowhere silent S cells q blinds (suc d) tt r p sb wb u x y)
        (Visits.member_sim enter nowhere emit silent S cells q R Anywhere Anything (no_premises enter S q) both (suc d) sources blinds t tt n r p sb wb tt e eb members u x x< y y<)

    pub column_kept : (u x : ℕ) → x < r.grid.columns → (w : World A) → Holds w → Holds (ending (column_step enter emit S cells q sources (suc d) t r p sb wb u x w))
    column_kept u x x< =
        one_flow (column_step enter emit S cells q sources (suc d) t r p sb wb u x) (column_step nowhere silent S cells q blinds (suc d) tt r p sb wb u x)
        (Visits.column_sim enter nowhere emit silent S cells q R Anywhere Anything (no_premises enter S q) both (suc d) sources blinds t tt n r p sb wb tt e eb members u x x<)

  -- ---- a plan

  pub plan_kept : (t : P) (w : World A) → Holds w → Holds (plan enter emit S cells q t w)
  plan_kept t =
      one (plan enter emit S cells q t) (plan nowhere silent S cells q tt)
      (Visits.plan_sim enter nowhere emit silent S cells q R Anywhere Anything (no_premises enter S q) both t tt (λ u. tt) tt)

-- ---- what every event but the totals keeps, all visits of a plan keep

module _ {P A : Type 0} (enter : Step → P → P) (emit : P → Event → ℕ → A → A) (S : Sheet) (cells : ℕ) (q : Query) (I : ScenePlan → A → Type 0)
    (keeps : (t : P) (e : Event) → is_totals e ≡ false → (s : ScenePlan) → Room q s e → (a : A) → I s a → I (after e s) (emit t e s.tape_end a)) where
  abbrev RootR : ScenePlan → A → Unit {0} → Type 0
  RootR s a b = I s a

  visit_both : (ta : P) (tb : Unit {0}) (e : Event) → is_totals e ≡ false → (s : ScenePlan) → Room q s e → (a : A) (b : Unit {0}) → RootR s a b → RootR (after e s) (emit ta e s.tape_end a) (silent tb e s.tape_end b)
  visit_both ta tb e ok s room a b r = keeps ta e ok s room a r

  pub root_kept : (t : P) (w : World A) → I w.state w.out → let v = visit_root enter emit S cells q q.depth t w in I v.state v.out
  root_kept t w h =
      the_relation RootR
      (Visits.root_sim enter nowhere emit silent S cells q RootR (λ d t s p. Unit {0}) (λ t e. is_totals e ≡ false) (visit_premises enter S q (λ e. is_totals e ≡ false) (λ e z. z)) visit_both q.depth t tt tt
      w.state w.out tt w.counts w.marks h)
