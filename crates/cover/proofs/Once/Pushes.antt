-- Proxies add no record; a batch and a text add one, at their tag; a node's points add one each, below it.
-- Assumes nothing.
use mathlib.Core.Path.{refl}
use mathlib.Core.Bool.{not}
use mathlib.Core.List.{List, ◌∷◌}
use mathlib.Core.Option.{Option, none, some}
use Prim.Native.Nat.{ℕ}
use lib.Dec.{ltb}
use Rattle.geometry.specs.declared.placement.Placement.{Placement}
use Rattle.geometry.specs.declared.bbox.WorldBBox.{WorldBBox}
use Rattle.geometry.specs.declared.bbox.Bounds.{Bounds}
use Rattle.geometry.specs.declared.bbox.Bounds.TheVariants.{Absent, Box}
use Rattle.geometry.specs.Placement.{transform_point2}
use Rattle.geometry.specs.Bbox.{bbox, transform_bbox, overlaps, point_in_bbox}
use Rattle.screen.specs.Screen.{screen_size, is_subpixel, is_dense_batch}
use Rattle.records.specs.declared.PreparedGeometry.{PreparedGeometry}
use Rattle.records.specs.declared.PreparedText.{PreparedText}
use Rattle.records.specs.Sources.{no_label}
use Rattle.abstract_sheet.specs.Sheet.{NodeRecord, Sheet}
use Rattle.plan_rules.specs.Limits.{max_load_proxies}
use Rattle.plan_rules.specs.declared.Reason.{Reason}
use Rattle.plan_rules.specs.Event.{batch, text, point, proxy, dropped_proxy, skipped_batch, culled_batch, Step, point_at}
use Rattle.plan_rules.specs.World.{Query, hides, detail_budget_exhausted, World, Flow, ending}
use Rattle.plan_rules.specs.Push.{say, add_load, add_load_if_boxed, push_found_geometry, push_found_text, push_point, push_found_node}
use Rattle.plan_rules.specs.Tape.{note}
use Rattle.cover.specs.Trace.{enter}
use Rattle.cover.proofs.Tests.{cond_case}
use Rattle.cover.proofs.TagPaths.{Tagged}
use Rattle.cover.proofs.Once.Adds.{Adds, AddsWorld, AddsFlow, adds_nothing, adds_quiet, adds_record, adds_more}
use Rattle.cover.proofs.Once.Loops.{Under, under_self, From, from_under, steps_add}

pub load_adds : (K : List Step → Type 0) (t : List Step) (y : Reason) (l : ℕ) (b : WorldBBox) → AddsWorld K (add_load enter note t y l b)
unfolding add_load say
load_adds K t y l b w =
    cond_case (λ (v : World Tagged). Adds K w.out v.out) (ltb w.state.load_proxies max_load_proxies) _ _ (λ _. adds_quiet K w.out t (proxy y l b) refl) (λ _. adds_quiet K w.out t (dropped_proxy y l b) refl)

pub load_if_boxed_adds : (K : List Step → Type 0) (t : List Step) (y : Reason) (l : ℕ) (o : Bounds) → AddsWorld K (add_load_if_boxed enter note t y l o)
load_if_boxed_adds K t y l Absent w = adds_nothing K w.out
load_if_boxed_adds K t y l (Box x₀ y₀ x₁ y₁) w = load_adds K t y l (bbox x₀ y₀ x₁ y₁) w

module _ (S : Sheet) (q : Query) where
  pub geometry_adds : (t : List Step) (n : ℕ) (p : Placement) (o : Option PreparedGeometry) → AddsWorld (Under t) (push_found_geometry enter note S q t n p o)
  unfolding push_found_geometry say
  geometry_adds t n p none w = adds_nothing (Under t) w.out
  geometry_adds t n p (some b) w =
      let box = transform_bbox p b.bbox in
      let size = screen_size box q.zoom in
      let A : World Tagged → Type 0 = λ (v : World Tagged). Adds (Under t) w.out v.out in
      cond_case A (hides q b.layer b.data_type) _ _ (λ _. adds_nothing (Under t) w.out)
      (λ _. cond_case A (not (overlaps box q.view)) _ _ (λ _. adds_quiet (Under t) w.out t culled_batch refl)
      (λ _. cond_case A (is_subpixel size) _ _ (λ _. adds_quiet (Under t) w.out t (skipped_batch box) refl)
      (λ _. cond_case A (is_dense_batch size b.element_count) _ _ (λ _. load_adds (Under t) t _ no_label box w)
      (λ _. cond_case A (detail_budget_exhausted q w.state) _ _ (λ _. load_adds (Under t) t _ no_label box w)
      (λ _. adds_record (Under t) w.out t (batch n p) (under_self t))))))

  pub text_adds : (t : List Step) (n : ℕ) (p : Placement) (o : Option PreparedText) → AddsWorld (Under t) (push_found_text enter note S q t n p o)
  unfolding push_found_text say
  text_adds t n p none w = adds_nothing (Under t) w.out
  text_adds t n p (some x) w =
      let v = transform_point2 p x.origin in
      let A : World Tagged → Type 0 = λ (v : World Tagged). Adds (Under t) w.out v.out in
      cond_case A (hides q x.layer x.data_type) _ _ (λ _. adds_nothing (Under t) w.out)
      (λ _. cond_case A (point_in_bbox v q.view) _ _ (λ _. adds_record (Under t) w.out t (text n v) (under_self t)) (λ _. adds_nothing (Under t) w.out))

  point_adds : (t : List Step) (p : Placement) (x : NodeRecord) (j : ℕ) → AddsFlow (Under (point_at j ∷ t)) (push_point enter note S q t p x j)
  unfolding push_point say
  point_adds t p x j w =
      let v = transform_point2 p (x.point j) in
      let K = Under (point_at j ∷ t) in
      let A : Flow Tagged → Type 0 = λ (f : Flow Tagged). Adds K w.out (ending f).out in
      cond_case A (not (point_in_bbox v q.view)) _ _ (λ _. adds_nothing K w.out)
      (λ _. cond_case A (detail_budget_exhausted q w.state) _ _ (λ _. adds_nothing K w.out)
      (λ _. adds_record K w.out (point_at j ∷ t) (point x.layer x.node_type v) (under_self (point_at j ∷ t))))

  pub node_adds : (t : List Step) (p : Placement) (o : Option NodeRecord) → AddsFlow (Under t) (push_found_node enter note S q t p o)
  unfolding push_found_node
  node_adds t p none w = adds_nothing (Under t) w.out
  node_adds t p (some x) w =
      cond_case (λ (f : Flow Tagged). Adds (Under t) w.out (ending f).out) (hides q x.layer x.node_type) _ _ (λ _. adds_nothing (Under t) w.out)
      (λ _. adds_more (From point_at t 0) (Under t) w.out _ (from_under point_at t 0) (steps_add point_at (λ i j e. cc) t (push_point enter note S q t p x) (point_adds t p x) x.count 0 w))
