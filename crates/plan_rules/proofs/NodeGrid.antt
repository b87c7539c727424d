-- DOCUMENT 02, PAPER 5: the sentences of `specs.NodeGrid` hold.
-- Assumes nothing.
use mathlib.Core.Path.{◌≡◌, refl, ap, ◌∙◌, subst}
use mathlib.Core.Bool.{Bool, true, false, not, cond, ◌||◌}
use mathlib.Core.Option.{Option, none, some}
use Prim.Native.Nat.{ℕ, zero, suc, ◌+◌, ◌<◌}
use lib.Dec.{leb, ltb}
use borrow.Author.Tests.{leb-true, leb-false, lt-ltb}
use Rattle.geometry.specs.declared.bbox.WorldBBox.{WorldBBox}
use Rattle.geometry.specs.declared.placement.Placement.{Placement}
use Rattle.geometry.specs.Placement.{transform_point2}
use Rattle.geometry.specs.Bbox.{point_in_bbox}
use Rattle.records.specs.declared.PreparedSource.TheVariants.{Node}
use Rattle.records.specs.declared.PreparedReference.{PreparedReference}
use Rattle.records.specs.Sources.{no_label, label}
use Rattle.abstract_sheet.specs.Sheet.{NodeRecord, Sheet}
use Rattle.plan_rules.specs.declared.ScenePlan.{ScenePlan}
use Rattle.plan_rules.specs.declared.Reason.TheVariants as reason
use Rattle.plan_rules.specs.Limits.{max_text_instances, max_load_proxies}
use Rattle.plan_rules.specs.Event.{Event, Step, member, after, ◌⊞◌}
use Rattle.plan_rules.specs.World.{Query, hides, detail_budget_exhausted, World, Flow, go, halt, bind, each}
use Rattle.plan_rules.specs.Push.{say, add_load, push_point, push_found_node, push_node}
use Rattle.plan_rules.specs.Visit.{VisitReference, visit_source_with, member_step, column_step}
use Rattle.plan_rules.specs.NodeGrid.{NodeStopsAtObjects, RunsOut, NodeGridRunsOut, MemberBoxIsListed, visit_member, visit_column, member_box}
use Rattle.plan_rules.proofs.Paths.Loops.{each_halts_at}

module _ {P A : Type 0} (enter : Step → P → P) (emit : P → Event → ℕ → A → A) (S : Sheet) (q : Query) where
  -- ---- a node's points

  -- as many texts and proxies as before; and where they stop, a limit is met
  abbrev Same : ScenePlan → ScenePlan → Type 0
  Same s u = (u.texts ≡ s.texts) × (u.load_proxies ≡ s.load_proxies)

  abbrev Stops : ScenePlan → Flow A → Type 0
  Stops s (go v) = Same s v.state
  Stops s (halt v) = Same s v.state × (detail_budget_exhausted q v.state ≡ true)

  cond_stops : (s : ScenePlan) (c : Bool) (x y : Flow A) → (c ≡ true → Stops s x) → (c ≡ false → Stops s y) → Stops s (cond c x y)
  cond_stops s true x y f g = f refl
  cond_stops s false x y f g = g refl

  further : (s u : ScenePlan) (x : Flow A) → Same s u → Stops u x → Stops s x
  further s u (go v) h k = (k.0 ∙ h.0, k.1 ∙ h.1)
  further s u (halt v) h k = ((k.0.0 ∙ h.0, k.0.1 ∙ h.1), k.1)

  bind_stops : (s : ScenePlan) (x : Flow A) (f : World A → Flow A) → Stops s x → ((v : World A) → Stops v.state (f v)) → Stops s (bind x f)
  bind_stops s (go v) f h k = further s v.state (f v) h (k v)
  bind_stops s (halt v) f h k = h

  each_stops : (f : ℕ → World A → Flow A) → ((j : ℕ) (w : World A) → Stops w.state (f j w)) → (count j : ℕ) (w : World A) → Stops w.state (each f count j w)
  unfolding each
  each_stops f h zero j w = (refl, refl)
  each_stops f h (suc count) j w = bind_stops w.state (f j w) (each f count (j + 1)) (h j w) (each_stops f h count (j + 1))

  point_stops : (t : P) (p : Placement) (x : NodeRecord) (j : ℕ) (w : World A) → Stops w.state (push_point enter emit S q t p x j w)
  unfolding push_point say after ◌⊞◌
  point_stops t p x j w =
      cond_stops w.state (not (point_in_bbox (transform_point2 p (x.point j)) q.view)) _ _ (λ _. (refl, refl))
      (λ _. cond_stops w.state (detail_budget_exhausted q w.state) _ _ (λ e. ((refl, refl), e)) (λ _. (refl, refl)))

  found_stops : (t : P) (p : Placement) (o : Option NodeRecord) (w : World A) → Stops w.state (push_found_node enter emit S q t p o w)
  unfolding push_found_node
  found_stops t p none w = (refl, refl)
  found_stops t p (some x) w = cond_stops w.state (hides q x.layer x.node_type) _ _ (λ _. (refl, refl)) (λ _. each_stops (push_point enter emit S q t p x) (point_stops t p x) x.count 0 w)

  -- of three limits, none met before and the last two as they were, the first is met
  the_first : (a b c d : Bool) → (a || b || c) ≡ false → (d || b || c) ≡ true → d ≡ true
  the_first true b c d h k = cc
  the_first false true c d h k = cc
  the_first false false true d h k = cc
  the_first false false false true h k = refl
  the_first false false false false h k = k

  the_last : (a b c : Bool) → (a || b || c) ≡ false → c ≡ false
  the_last true b c h = cc
  the_last false true c h = cc
  the_last false false c h = h

  abbrev texts_full : World A → Bool
  texts_full w = leb max_text_instances w.state.texts

  abbrev proxies_full : World A → Bool
  proxies_full w = leb max_load_proxies w.state.load_proxies

  pub node_stops_at_objects : NodeStopsAtObjects enter emit S q
  unfolding push_node detail_budget_exhausted
  node_stops_at_objects t n p w v h e =
      let stops : Stops w.state (halt v) = subst (Stops w.state) e (found_stops t p (S.node n) w) in
      let same = stops.0 in
      let met = the_first (leb q.object_limit w.state.detail_objects) (texts_full w) (proxies_full w) (leb q.object_limit v.state.detail_objects) h (rw (same.0, same.1) at stops.1) in
      (same.0, same.1, leb-true q.object_limit v.state.detail_objects met)

  -- ---- a grid of bare node points

  module _ (cells : ℕ) (visit : VisitReference enter emit S cells q) (depth : ℕ) (t : P) (r : PreparedReference) (n : ℕ) (p : Placement) (sourceBox world_box : WorldBBox) (units : ℕ) where
    abbrev both_boxes : ℕ → ℕ → World A → World A
    both_boxes column row v =
        add_load enter emit t reason.OtherLimit no_label world_box
        (add_load enter emit (enter (member column row) t) reason.OtherLimit no_label (member_box enter emit S q cells visit depth t r n p sourceBox world_box units column row) v)

    abbrev Out : ℕ → ℕ → World A → World A → Type 0
    Out = RunsOut enter emit S q cells visit depth t r n p sourceBox world_box units

    abbrev turn : ℕ → ℕ → World A → Flow A
    turn = visit_member enter emit S q cells visit depth t r n p sourceBox world_box units

    member_halts : (column row : ℕ) (w v : World A) → r.source ≡ Node n → (o : Out column row w v) → turn column row o.w₂ ≡ halt (both_boxes column row v)
    unfolding member_step visit_source_with label
    member_halts column row w v source o = rw (o.room, o.in_view, o.large, o.visited, source, o.stopped)

    pub node_grid_runs_out : NodeGridRunsOut enter emit S q cells visit depth t r n p sourceBox world_box units
    unfolding column_step
    node_grid_runs_out column row w v source column< row< o =
        each_halts_at (visit_column enter emit S q cells visit depth t r n p sourceBox world_box units) r.grid.columns column w o.w₁ _ column< o.columns_before
        (each_halts_at (turn column) r.grid.rows row o.w₁ o.w₂ _ row< o.rows_before (member_halts column row w v source o))

    pub member_box_is_listed : MemberBoxIsListed enter emit S q cells visit depth t r n p sourceBox world_box units
    unfolding add_load detail_budget_exhausted
    member_box_is_listed column row w v o =
        let same = (node_stops_at_objects (enter (member column row) t) n _ o.w₂ v o.room o.stopped).1 in
        let s : ScenePlan = o.w₂.state in
        let below : s.load_proxies < max_load_proxies = leb-false max_load_proxies s.load_proxies (the_last (leb q.object_limit s.detail_objects) (texts_full o.w₂) (proxies_full o.w₂) o.room) in
        let free : ltb v.state.load_proxies max_load_proxies ≡ true = ap (λ (k : ℕ). ltb k max_load_proxies) same ∙ lt-ltb s.load_proxies max_load_proxies below in
        rw free
