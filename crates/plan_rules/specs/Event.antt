-- What happens in a plan (events), where it happens (steps), the record of each event on the tape, and what it adds to the totals.
-- Every change of the state is an event, so a fact that each event keeps is kept by every plan.
-- Definitions only; rests on `Limits`, the fields' definitions and the declared types.
use Rattle.std.specs.Prelude.{Bool, cond, List, [], ◌∷◌, ℕ, zero, suc, ◌+◌, ◌*◌, min, eqb}
use Rattle.fields.specs.Field.{Field, uint, f64, widths, record_bytes}
use Rattle.fields.specs.Head.{size_width, kind_width, head_width}
use Rattle.geometry.specs.declared.placement.DVec2.{DVec2}
use Rattle.geometry.specs.declared.bbox.WorldBBox.{WorldBBox}
use Rattle.geometry.specs.declared.placement.Placement.{Placement}
use Rattle.plan_rules.specs.declared.ScenePlan.{ScenePlan}
use Rattle.plan_rules.specs.declared.Reason.{Reason}
use Rattle.plan_rules.specs.Limits.{max_total}

-- ---- events

-- The first four and the last are records of the tape. The others are not written: document 01 speaks of them, or the totals count them.
pub data Event : Type 0 where
  batch : ℕ → Placement → Event  -- number, placement
  text : ℕ → DVec2 → Event  -- number, position
  point : ℕ → ℕ → DVec2 → Event  -- layer, node type, position
  proxy : Reason → ℕ → WorldBBox → Event  -- why, label, box
  dropped_proxy : Reason → ℕ → WorldBBox → Event  -- "A full proxy list drops further proxies"; document 02, paper 8, counts them
  skipped_member : Bool → WorldBBox → Event  -- is the source box degenerate; the member's box
  skipped_batch : WorldBBox → Event
  culled_reference : Event  -- a reference or one of its members
  culled_batch : Event
  detail_cell : Event  -- a cell is visited in detail
  totals : ScenePlan → Event

-- A step of a path: "It names the list place, column and row of each step, the item's list place, and a point's place in its node".
pub data Step : Type 0 where
  batch_at text_at node_at reference_at : ℕ → Step  -- a list place in a cell
  member : ℕ → ℕ → Step  -- column, row
  point_at : ℕ → Step

-- ---- records

-- "whole length (4 bytes), kind (2), body"
abbrev pub header : ℕ → List Field → List Field
header kind body = uint size_width (head_width + widths body) ∷ uint kind_width kind ∷ body

-- a proxy's record, which does not say why
abbrev pub proxy_fields : ℕ → WorldBBox → List Field
proxy_fields label b = header 14 (uint 4 label ∷ f64 b.min_x ∷ f64 b.min_y ∷ f64 b.max_x ∷ f64 b.max_y ∷ [])

-- the record of an event, field by field; an event that is not written has none
abbrev pub fields_of : Event → List Field
fields_of (batch number p) = header 11 (uint 4 number ∷ f64 p.xx ∷ f64 p.xy ∷ f64 p.yx ∷ f64 p.yy ∷ f64 p.tx ∷ f64 p.ty ∷ [])
fields_of (text number v) = header 12 (uint 4 number ∷ f64 v.x ∷ f64 v.y ∷ [])
fields_of (point layer type v) = header 13 (uint 2 layer ∷ uint 2 type ∷ f64 v.x ∷ f64 v.y ∷ [])
fields_of (proxy why label b) = proxy_fields label b
fields_of (dropped_proxy why label b) = []
fields_of (skipped_member degenerate b) = []
fields_of (skipped_batch b) = []
fields_of culled_reference = []
fields_of culled_batch = []
fields_of detail_cell = []
fields_of (totals s) =
    header 15
    (uint 8 s.detail_cells
    ∷ uint 8 s.detail_objects
    ∷ uint 8 s.culled_references
    ∷ uint 8 s.skipped_subpixel_references
    ∷ uint 8 s.culled_geometry_batches
    ∷ uint 8 s.skipped_subpixel_geometry_batches
    ∷ uint 8 s.dropped_load_proxies
    ∷ [])

unfoldable pub encode : Event → List ℕ
encode e = record_bytes (fields_of e)

-- ---- totals

-- "Totals stop at 2^64 − 1"
unfoldable pub saturate : ℕ → ℕ
saturate n = min n max_total

-- A sum that stops there. Adding 0 leaves a number literally as it is, so that an event leaves alone what it does not count.
infixl 60 ◌⊞◌
unfoldable pub ◌⊞◌ : ℕ → ℕ → ℕ
x ⊞ zero = x
x ⊞ suc n = saturate (x + suc n)

-- `saturating_mul`: a product that stops there
infixl 70 ◌⊠◌
abbrev pub ◌⊠◌ : ℕ → ℕ → ℕ
x ⊠ y = saturate (x * y)

-- the fields of `ScenePlan` in their order
abbrev pub scene_plan : ℕ → ℕ → ℕ → ℕ → ℕ → ℕ → ℕ → ℕ → ℕ → ℕ → ScenePlan
scene_plan end texts proxies cells objects culledReferences skippedReferences culledBatches skipped_batches dropped_proxies = record {
  tape_end = end;
  texts = texts;
  load_proxies = proxies;
  detail_cells = cells;
  detail_objects = objects;
  culled_references = culledReferences;
  skipped_subpixel_references = skippedReferences;
  culled_geometry_batches = culledBatches;
  skipped_subpixel_geometry_batches = skipped_batches;
  dropped_load_proxies = dropped_proxies;
}

-- `ScenePlan::default()`
unfoldable pub empty_plan : ScenePlan
empty_plan = scene_plan 0 0 0 0 0 0 0 0 0 0

-- the totals that an event may count
pub data Total : Type 0 where
  texts proxies cells objects culledReferences skippedReferences culledBatches skipped_batches dropped_proxies : Total

-- by its place among them
abbrev column : Total → ℕ
column texts = 0
column proxies = 1
column cells = 2
column objects = 3
column culledReferences = 4
column skippedReferences = 5
column culledBatches = 6
column skipped_batches = 7
column dropped_proxies = 8

-- The totals in which an event counts one. "Objects equal listed batches, texts and points together."
-- Document 02, paper 8: "The totals gain a seventh count: proxies that met a full list."
abbrev pub counted_in : Event → List Total
counted_in (batch number placement) = objects ∷ []
counted_in (text number position) = texts ∷ objects ∷ []
counted_in (point layer type position) = objects ∷ []
counted_in (proxy why label box) = proxies ∷ []
counted_in (dropped_proxy why label box) = dropped_proxies ∷ []
counted_in (skipped_member degenerate box) = skippedReferences ∷ []
counted_in (skipped_batch box) = skipped_batches ∷ []
counted_in culled_reference = culledReferences ∷ []
counted_in culled_batch = culledBatches ∷ []
counted_in detail_cell = cells ∷ []
counted_in (totals plan) = []

-- how often a total stands in a list
abbrev times : Total → List Total → ℕ
times t [] = 0
times t (x ∷ l) = cond (eqb (column t) (column x)) 1 0 + times t l

-- what an event adds: to the tape's end the bytes of its record, and one to each total in which it counts
abbrev pub amounts : Event → ScenePlan
amounts e = record {
  tape_end = widths (fields_of e);
  texts = times texts (counted_in e);
  load_proxies = times proxies (counted_in e);
  detail_cells = times cells (counted_in e);
  detail_objects = times objects (counted_in e);
  culled_references = times culledReferences (counted_in e);
  skipped_subpixel_references = times skippedReferences (counted_in e);
  culled_geometry_batches = times culledBatches (counted_in e);
  skipped_subpixel_geometry_batches = times skipped_batches (counted_in e);
  dropped_load_proxies = times dropped_proxies (counted_in e);
}

-- the state after an event
unfoldable pub after : Event → ScenePlan → ScenePlan
after e s =
    scene_plan
    (s.tape_end ⊞ (amounts e).tape_end)
    (s.texts ⊞ (amounts e).texts)
    (s.load_proxies ⊞ (amounts e).load_proxies)
    (s.detail_cells ⊞ (amounts e).detail_cells)
    (s.detail_objects ⊞ (amounts e).detail_objects)
    (s.culled_references ⊞ (amounts e).culled_references)
    (s.skipped_subpixel_references ⊞ (amounts e).skipped_subpixel_references)
    (s.culled_geometry_batches ⊞ (amounts e).culled_geometry_batches)
    (s.skipped_subpixel_geometry_batches ⊞ (amounts e).skipped_subpixel_geometry_batches)
    (s.dropped_load_proxies ⊞ (amounts e).dropped_load_proxies)
