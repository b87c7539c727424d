-- COVERED: what an event of a plan does for a path. A path is listed, lies within the box of a proxy that is listed or dropped, or lies in something skipped.
-- Definitions only; rests on paths, the view's words, the trace and the rules' measures. Assumes nothing.
use Rattle.std.specs.Prelude.{◌≡◌, Bool, [], ◌∷◌, ◌++◌, ℕ, ◌<◌, T as Yes}
use Rattle.std.proofs.Math.Option.{some}
use Rattle.geometry.specs.declared.placement.DVec2.{DVec2}
use Rattle.geometry.specs.declared.placement.Placement.{Placement}
use Rattle.geometry.specs.declared.bbox.WorldBBox.{WorldBBox}
use Rattle.screen.specs.declared.ScreenSize.{ScreenSize}
use Rattle.geometry.specs.Bbox.{boxed, source_is_degenerate}
use Rattle.screen.specs.Screen.{screen_size, reference_screen_size}
use Rattle.records.specs.declared.PreparedSource.TheVariants.{Geometry, Reference}
use Rattle.records.specs.declared.PreparedGeometry.{PreparedGeometry}
use Rattle.records.specs.declared.PreparedText.{PreparedText}
use Rattle.records.specs.declared.PreparedReference.{PreparedReference}
use Rattle.abstract_sheet.specs.Sheet.{NodeRecord, Sheet}
use Rattle.exact.specs.Placement.{ExactPlacement, IsVector, IsPlacement}
use Rattle.exact.specs.Box.{IntegerBox, IsBox, box_of, place}
use Rattle.exact.specs.Screen.{is_under_one_pixel}
use Rattle.plan_rules.specs.Limits.{max_load_proxies}
use Rattle.plan_rules.specs.declared.ScenePlan.{ScenePlan}
use Rattle.plan_rules.specs.declared.Reason.{Reason}
use Rattle.plan_rules.specs.Event.{Event, batch, text, point, proxy, dropped_proxy, skipped_member, skipped_batch, totals, member, saturate}
use Rattle.plan_rules.specs.World.{Query}
use Rattle.totals.specs.Proxies.{listed_proxies, dropped_proxies}
use Rattle.cover.specs.Path.{Path, Item, a_batch, a_text, a_point, member_at, Reaches, LeadsTo}
use Rattle.cover.specs.View.{placed_batch, text_position, point_position, WithinBox}
use Rattle.cover.specs.Trace.{Trace, Any, IsRecord}

-- ---- listed

-- "It is listed by a record of its own, with the item's number (a point's layer and type) and, in value (zeros of either sign are equal),
-- its exact whole-number placement"
pub data Lists : Item → Event → Type 0 where
  lists_batch : {n : ℕ} {g : PreparedGeometry} {T : ExactPlacement} {p : Placement} → IsPlacement p T → Lists (a_batch n g T) (batch n p)
  lists_text : {n : ℕ} {x : PreparedText} {T : ExactPlacement} {v : DVec2} → IsVector v (text_position x T) → Lists (a_text n x T) (text n v)
  lists_point : {n j : ℕ} {x : NodeRecord} {T : ExactPlacement} {v : DVec2} → IsVector v (point_position x j T) → Lists (a_point n x j T) (point x.layer x.node_type v)

-- "no two records the same path"
abbrev pub NoPathTwice : Trace → Type 0
NoPathTwice [] = Unit {0}
NoPathTwice (x ∷ l) = (IsRecord x.1 → Any (λ (y : Path × Event). IsRecord y.1 × (y.0 ≡ x.0)) l → ⊥) × NoPathTwice l

-- ---- dropped

-- "A dropped proxy is one that the rules call for when the plan has listed 100,000; its box is the one it would have had."
abbrev pub DroppedWhenFull : Trace → Type 0
DroppedWhenFull [] = Unit {0}
DroppedWhenFull (x ∷ l) = ((why : Reason) (label : ℕ) (box : WorldBBox) → x.1 ≡ dropped_proxy why label box → listed_proxies l ≡ max_load_proxies) × DroppedWhenFull l

-- Document 02, paper 8: the totals, which come last, count the dropped proxies, until the count stops.
abbrev pub DroppedAreCounted : Trace → Type 0
DroppedAreCounted [] = ⊥
DroppedAreCounted (x ∷ l) = (s : ScenePlan) × (x.1 ≡ totals s) × (s.dropped_load_proxies ≡ saturate (dropped_proxies l))

-- ---- skipped

pub data IsSkip : Event → Type 0 where
  member_skip : {degenerate : Bool} {box : WorldBBox} → IsSkip (skipped_member degenerate box)
  batch_skip : {box : WorldBBox} → IsSkip (skipped_batch box)

-- "under one pixel in width and in height"
abbrev pub UnderOnePixel : ScreenSize → Type 0
UnderOnePixel size = Yes (is_under_one_pixel size)

module _ (S : Sheet) (q : Query) where
  -- "something skipped": "a member, or .. a batch, whose placed box the rules measure under one pixel in width and in height"
  pub data Skipped : Path → Event → Type 0 where
    skipped_member_lem : {p : Path} {n column row : ℕ} {T : ExactPlacement} {r : PreparedReference} {box : WorldBBox} (sourceBox : WorldBBox) → Reaches S q.root p (Reference n) T
        → S.reference n ≡ some r → r.source_bbox ≡ boxed sourceBox → column < r.grid.columns → row < r.grid.rows
        → IsBox box (place (member_at T r column row) (box_of sourceBox)) → UnderOnePixel (reference_screen_size box q.zoom (source_is_degenerate sourceBox))
        → Skipped (p ++ member column row ∷ []) (skipped_member (source_is_degenerate sourceBox) box)
    skipped_batch_lem : {p : Path} {n : ℕ} {T : ExactPlacement} {g : PreparedGeometry} {box : WorldBBox} → Reaches S q.root p (Geometry n) T → S.geometry n ≡ some g
        → IsBox box (placed_batch g T) → UnderOnePixel (screen_size box q.zoom) → Skipped p (skipped_batch box)

  -- ---- covered

  -- what an event, at the path where it happened, does for a path p to the item h
  pub data Covers (p : Path) (h : Item) : Path → Event → Type 0 where
    listed : {e : Event} → Lists h e → Covers p h p e
    within_proxy : {place : Path} {why : Reason} {label : ℕ} {box : WorldBBox} {z : IntegerBox} → IsBox box z → WithinBox h z → Covers p h place (proxy why label box)
    within_dropped_proxy : {place : Path} {why : Reason} {label : ℕ} {box : WorldBBox} {z : IntegerBox} → IsBox box z → WithinBox h z → Covers p h place (dropped_proxy why label box)
    -- "A path lies in something skipped if it leads through a member, or to a batch" that is skipped
    in_skipped : {place : Path} {e : Event} (rest : Path) → Skipped place e → p ≡ place ++ rest → Covers p h place e

  -- by some event of the plan
  abbrev pub Covered : Path → Item → Trace → Type 0
  Covered p h trace = Any (λ (x : Path × Event). Covers p h x.0 x.1) trace

  -- ---- listed, of one record

  -- "every record of kinds 11 to 13 lists one path": the record is that of the item to which its path leads
  abbrev pub ListsItsPath : Path → Event → Type 0
  ListsItsPath p e = (h : Item) × LeadsTo S q.root p h × Lists h e
