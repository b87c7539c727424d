-- What a plan lists: `add_load`, `push_geometry`, `push_text` and `push_node` of bevy_scene.rs, with their tests in the Rust's order.
-- The rules are open in two things, so that one definition serves the code, the tape and the cover of items:
--     `emit`, what becomes of an event: bytes on the tape, an entry of a list, nothing;
--     `enter`, what becomes of the tag that says where a visit stands: nothing, or the path from the root.
-- Definitions only; rests on the definitions of geometry and screen, the abstract sheet, `Event` and `World`.
use Rattle.std.specs.Prelude.{not, cond, ℕ, ltb}
use Rattle.std.proofs.Math.Option.{Option, none, some}
use Rattle.geometry.specs.declared.bbox.WorldBBox.{WorldBBox}
use Rattle.geometry.specs.declared.bbox.Bounds.{Bounds}
use Rattle.geometry.specs.declared.bbox.Bounds.TheVariants.{Absent, Box}
use Rattle.geometry.specs.declared.placement.Placement.{Placement}
use Rattle.geometry.specs.Placement.{transform_point2}
use Rattle.geometry.specs.Bbox.{transform_bbox, overlaps, point_in_bbox, bbox}
use Rattle.screen.specs.Screen.{screen_size, is_subpixel, is_dense_batch}
use Rattle.records.specs.declared.PreparedGeometry.{PreparedGeometry}
use Rattle.records.specs.declared.PreparedText.{PreparedText}
use Rattle.records.specs.Sources.{no_label}
use Rattle.abstract_sheet.specs.Sheet.{NodeRecord, Sheet}
use Rattle.plan_rules.specs.declared.Reason.{Reason}
use Rattle.plan_rules.specs.declared.Reason.TheVariants as reason
use Rattle.plan_rules.specs.Limits.{max_load_proxies}
use Rattle.plan_rules.specs.Event.{Event, batch, text, point, proxy, dropped_proxy, skipped_batch, culled_batch, Step, point_at, after}
use Rattle.plan_rules.specs.World.{Query, hides, detail_budget_exhausted, World, world, Flow, go, halt, each}

module _ {P A : Type 0} (enter : Step → P → P) (emit : P → Event → ℕ → A → A) where
  -- an event, sent on with the tape's end
  unfoldable pub say : P → Event → World A → World A
  say t e w = world (after e w.state) (emit t e w.state.tape_end w.out) w.counts w.marks

  -- `add_load`
  unfoldable pub add_load : P → Reason → ℕ → WorldBBox → World A → World A
  add_load t why label box w = cond (ltb w.state.load_proxies max_load_proxies) (say t (proxy why label box) w) (say t (dropped_proxy why label box) w)

  -- `if let Some(bbox) = world_bbox { self.add_load(bbox, ..) }`
  abbrev pub add_load_if_boxed : P → Reason → ℕ → Bounds → World A → World A
  add_load_if_boxed t why label Absent w = w
  add_load_if_boxed t why label (Box a b c d) w = add_load t why label (bbox a b c d) w

  module _ (S : Sheet) (q : Query) where
    -- `push_geometry` of a batch that is there. (A number that names no batch lists nothing; no sheet that passes question 7 has one.)
    unfoldable pub push_found_geometry : P → ℕ → Placement → Option PreparedGeometry → World A → World A
    push_found_geometry t n p none w = w
    push_found_geometry t n p (some g) w =
        let box = transform_bbox p g.bbox in
        let size = screen_size box q.zoom in
        cond (hides q g.layer g.data_type) w
        (cond (not (overlaps box q.view)) (say t culled_batch w)
        (cond (is_subpixel size) (say t (skipped_batch box) w)
        (cond (is_dense_batch size g.element_count) (add_load t reason.DenseBatch no_label box w)
        (cond (detail_budget_exhausted q w.state) (add_load t reason.OtherLimit no_label box w)
        (say t (batch n p) w)))))

    unfoldable pub push_geometry : P → ℕ → Placement → World A → World A
    push_geometry t n p w = push_found_geometry t n p (S.geometry n) w

    -- `push_text`
    unfoldable pub push_found_text : P → ℕ → Placement → Option PreparedText → World A → World A
    push_found_text t n p none w = w
    push_found_text t n p (some x) w =
        let position = transform_point2 p x.origin in
        cond (hides q x.layer x.data_type) w
        (cond (point_in_bbox position q.view) (say t (text n position) w) w)

    unfoldable pub push_text : P → ℕ → Placement → World A → World A
    push_text t n p w = push_found_text t n p (S.text n) w

    -- one turn of the loop of `push_node`: a point outside the view is passed over, one inside meets the budget
    unfoldable pub push_point : P → Placement → NodeRecord → ℕ → World A → Flow A
    push_point t p x j w =
        let position = transform_point2 p (x.point j) in
        cond (not (point_in_bbox position q.view)) (go w)
        (cond (detail_budget_exhausted q w.state) (halt w)
        (go (say (enter (point_at j) t) (point x.layer x.node_type position) w)))

    -- `push_node`, whose `false` is a halt
    unfoldable pub push_found_node : P → Placement → Option NodeRecord → World A → Flow A
    push_found_node t p none w = go w
    push_found_node t p (some x) w = cond (hides q x.layer x.node_type) (go w) (each (push_point t p x) x.count 0 w)

    unfoldable pub push_node : P → ℕ → Placement → World A → Flow A
    push_node t n p w = push_found_node t p (S.node n) w
