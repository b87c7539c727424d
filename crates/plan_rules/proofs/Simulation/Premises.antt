-- What a rule knows where it goes a step further, and where it says an event: the premises from which a caller of the induction shows that the event may be said.
-- `Stands depth t x p`: a visit of the source x at the placement p with this depth may stand at the tag t. `Allowed t e`: the event e may be said at the tag t.
-- Assumes nothing.
use mathlib.Core.Path.{◌≡◌, refl}
use mathlib.Core.Bool.{Bool, true, false, not}
use mathlib.Core.Option.{some}
use Prim.Native.Nat.{ℕ, suc, ◌<◌}
use lib.Dec.{ltb}
use lib.Dec.{T as Yes}
use Rattle.geometry.specs.declared.bbox.WorldBBox.{WorldBBox}
use Rattle.geometry.specs.declared.placement.Placement.{Placement}
use Rattle.geometry.specs.Placement.{transform_point2, ◌·◌}
use Rattle.geometry.specs.Bbox.{transform_bbox, source_is_degenerate, boxed}
use Rattle.grid.specs.Grid.{grid_member_transform}
use Rattle.screen.specs.Screen.{screen_size, reference_screen_size, is_subpixel}
use Rattle.records.specs.declared.PreparedSource.{PreparedSource}
use Rattle.records.specs.declared.PreparedSource.TheVariants.{Geometry, Text, Node, Reference, Cell}
use Rattle.records.specs.declared.PreparedGeometry.{PreparedGeometry}
use Rattle.records.specs.declared.PreparedText.{PreparedText}
use Rattle.records.specs.declared.PreparedReference.{PreparedReference}
use Rattle.abstract_sheet.specs.Sheet.{NodeRecord, CellRecord, Sheet}
use Rattle.plan_rules.specs.declared.ScenePlan.{ScenePlan}
use Rattle.plan_rules.specs.Limits.{max_load_proxies}
use Rattle.plan_rules.specs.declared.Reason.{Reason}
use Rattle.plan_rules.specs.Event.{Event, batch, text, point, proxy, dropped_proxy, skipped_member, skipped_batch, culled_reference, culled_batch, detail_cell, totals, Step, batch_at, text_at, node_at, reference_at, member, point_at}
use Rattle.plan_rules.specs.World.{Query, detail_budget_exhausted}

-- What the state is where an event is said: an object meets a budget that is not exhausted, a proxy a list that is not full, a dropped one a full list,
-- and the totals are the state's own.
abbrev pub Room : Query → ScenePlan → Event → Type 0
Room q s (batch n p) = Yes (not (detail_budget_exhausted q s))
Room q s (text n v) = Yes (not (detail_budget_exhausted q s))
Room q s (point l k v) = Yes (not (detail_budget_exhausted q s))
Room q s (proxy y l b) = Yes (ltb s.load_proxies max_load_proxies)
Room q s (dropped_proxy y l b) = Yes (not (ltb s.load_proxies max_load_proxies))
Room q s (skipped_member g b) = Unit {0}
Room q s (skipped_batch b) = Unit {0}
Room q s culled_reference = Unit {0}
Room q s culled_batch = Unit {0}
Room q s detail_cell = Unit {0}
Room q s (totals u) = u ≡ s

-- a plan says its totals, a visit all else
abbrev pub is_totals : Event → Bool
is_totals (batch n p) = false
is_totals (text n v) = false
is_totals (point l k v) = false
is_totals (proxy y l b) = false
is_totals (dropped_proxy y l b) = false
is_totals (skipped_member g b) = false
is_totals (skipped_batch b) = false
is_totals culled_reference = false
is_totals culled_batch = false
is_totals detail_cell = false
is_totals (totals u) = true

module _ {P : Type 0} (enter : Step → P → P) (S : Sheet) (q : Query) where
  pub record Premises (Stands : ℕ → P → PreparedSource → Placement → Type 0) (Allowed : P → Event → Type 0) : Type 0 where
    -- a step further
    pub at_batch : (d : ℕ) (t : P) (n : ℕ) (c : CellRecord) (i : ℕ) (p : Placement) → Stands d t (Cell n) p → S.cell n ≡ some c → i < c.geometries.count → Stands d (enter (batch_at i) t) (Geometry (c.geometries.at i)) p
    pub at_text : (d : ℕ) (t : P) (n : ℕ) (c : CellRecord) (i : ℕ) (p : Placement) → Stands d t (Cell n) p → S.cell n ≡ some c → i < c.texts.count → Stands d (enter (text_at i) t) (Text (c.texts.at i)) p
    pub at_node : (d : ℕ) (t : P) (n : ℕ) (c : CellRecord) (i : ℕ) (p : Placement) → Stands d t (Cell n) p → S.cell n ≡ some c → i < c.nodes.count → Stands d (enter (node_at i) t) (Node (c.nodes.at i)) p
    pub at_reference : (d : ℕ) (t : P) (n : ℕ) (c : CellRecord) (i : ℕ) (p : Placement) → Stands d t (Cell n) p → S.cell n ≡ some c → i < c.references.count → Stands d (enter (reference_at i) t) (Reference (c.references.at i)) p
    pub at_member : (d : ℕ) (t : P) (n : ℕ) (r : PreparedReference) (x y : ℕ) (p : Placement) → Stands (suc d) t (Reference n) p → S.reference n ≡ some r → x < r.grid.columns → y < r.grid.rows
        → Stands d (enter (member x y) t) r.source (p · grid_member_transform r.grid x y)
    -- what is listed
    pub listed_batch : (d : ℕ) (t : P) (n : ℕ) (g : PreparedGeometry) (p : Placement) → Stands d t (Geometry n) p → S.geometry n ≡ some g → Allowed t (batch n p)
    pub listed_text : (d : ℕ) (t : P) (n : ℕ) (x : PreparedText) (p : Placement) → Stands d t (Text n) p → S.text n ≡ some x → Allowed t (text n (transform_point2 p x.origin))
    pub listed_point : (d : ℕ) (t : P) (n : ℕ) (x : NodeRecord) (j : ℕ) (p : Placement) → Stands d t (Node n) p → S.node n ≡ some x → j < x.count
        → Allowed (enter (point_at j) t) (point x.layer x.node_type (transform_point2 p (x.point j)))
    pub listed_proxy : (t : P) (y : Reason) (l : ℕ) (b : WorldBBox) → Allowed t (proxy y l b)
    pub dropped_proxy_lem : (t : P) (y : Reason) (l : ℕ) (b : WorldBBox) → Allowed t (dropped_proxy y l b)
    -- what is skipped, culled or counted
    pub skipped_batch_lem : (d : ℕ) (t : P) (n : ℕ) (g : PreparedGeometry) (p : Placement) → Stands d t (Geometry n) p → S.geometry n ≡ some g
        → Yes (is_subpixel (screen_size (transform_bbox p g.bbox) q.zoom)) → Allowed t (skipped_batch (transform_bbox p g.bbox))
    pub skipped_member_lem : (d : ℕ) (t : P) (n : ℕ) (r : PreparedReference) (b : WorldBBox) (x y : ℕ) (p : Placement) → Stands d t (Reference n) p → S.reference n ≡ some r → r.source_bbox ≡ boxed b → x < r.grid.columns → y < r.grid.rows
        → let z = transform_bbox (p · grid_member_transform r.grid x y) b in
        Yes (is_subpixel (reference_screen_size z q.zoom (source_is_degenerate b))) → Allowed (enter (member x y) t) (skipped_member (source_is_degenerate b) z)
    pub culled_reference_lem : (t : P) → Allowed t culled_reference
    pub culled_batch_lem : (t : P) → Allowed t culled_batch
    pub detail_cell_lem : (t : P) → Allowed t detail_cell

  -- where nothing is asked of tags, and of events what all have that a visit says
  pub visit_premises : (Allowed : Event → Type 0) → ((e : Event) → is_totals e ≡ false → Allowed e) → Premises (λ d t s p. Unit {0}) (λ t e. Allowed e)
  visit_premises Allowed ok = record {
    at_batch = λ d t n c i p h e l. tt;
    at_text = λ d t n c i p h e l. tt;
    at_node = λ d t n c i p h e l. tt;
    at_reference = λ d t n c i p h e l. tt;
    at_member = λ d t n r x y p h e k l. tt;
    listed_batch = λ d t n b p h e. ok (batch n p) refl;
    listed_text = λ d t n x p h e. ok (text n (transform_point2 p x.origin)) refl;
    listed_point = λ d t n x j p h e l. ok (point x.layer x.node_type (transform_point2 p (x.point j))) refl;
    listed_proxy = λ t y l b. ok (proxy y l b) refl;
    dropped_proxy_lem = λ t y l b. ok (dropped_proxy y l b) refl;
    skipped_batch_lem = λ d t n g p h e y. ok (skipped_batch (transform_bbox p g.bbox)) refl;
    skipped_member_lem = λ d t n r b x y p h e eb k l z. ok (skipped_member (source_is_degenerate b) (transform_bbox (p · grid_member_transform r.grid x y) b)) refl;
    culled_reference_lem = λ t. ok culled_reference refl;
    culled_batch_lem = λ t. ok culled_batch refl;
    detail_cell_lem = λ t. ok detail_cell refl;
  }

  -- where nothing is asked of tags and events
  pub no_premises : Premises (λ d t s p. Unit {0}) (λ t e. Unit {0})
  no_premises = visit_premises (λ e. Unit {0}) (λ e z. tt)
