-- CONTROLLED OPPOSITES: plans of rules that are changed in one place. Each leaves a trace that differs from the rules' in that place, and demand 3 is false of it.
--     load left out at a limit · proxy with the wrong box · culling by the wrong edge · skipping on one side only · a member skipped at a circle · a path listed twice · a proxy dropped too early ·
--     the whole reference's box left out where a node grid meets a limit
-- Beside each stands the trace that the rules leave. Last, events that are not written: a dropped proxy invented covers what it holds, so `IsTape` ties the trace to the rules.
-- Assumes nothing.
use mathlib.Core.Path.{◌≡◌, refl, sym, ap, ◌∙◌, subst}
use mathlib.Core.Logic.{◌⊎◌, inl, inr}
use mathlib.Core.Bool.{Bool, false}
use mathlib.Core.List.{List, [], ◌∷◌}
use Prim.Native.Nat.{ℕ, zero, suc, ◌+◌, ◌≤◌}
use native.Mathlib.Omega.{arith}
use lib.Dec.{T as Yes}
use lib.ListN.{length, replicate}
use lib.IntN.{negsuc}
use lib.Ieee.{fin}
use Rattle.geometry.specs.declared.bbox.WorldBBox.{WorldBBox}
use Rattle.geometry.specs.Placement.{IDENTITY}
use Rattle.records.specs.declared.PreparedSource.TheVariants.{Node, Cell}
use Rattle.records.specs.declared.PreparedText.{PreparedText}
use Rattle.records.specs.Sources.{no_label}
use Rattle.records.specs.declared.PreparedGeometry.{PreparedGeometry}
use Rattle.records.specs.declared.PreparedReference.{PreparedReference}
use Rattle.abstract_sheet.specs.Sheet.{NodeRecord, CellRecord, Sheet}
use Rattle.exact.specs.Placement.{ExactPlacement, identity}
use Rattle.exact.specs.Box.{IntegerBox, Holds, IsBox, box_of}
use Rattle.exact.specs.Screen.{is_under_one_pixel}
use Rattle.exact.proofs.Floats.Reading.{integer_of_same}
use Rattle.plan_rules.specs.declared.ScenePlan.{ScenePlan}
use Rattle.plan_rules.specs.Limits.{max_load_proxies}
use Rattle.plan_rules.specs.declared.Reason.TheVariants as reason
use Rattle.plan_rules.specs.Event.{Event, batch, text, point, proxy, dropped_proxy, skipped_member, skipped_batch, culled_reference, culled_batch, detail_cell, totals, batch_at, text_at, reference_at, member, point_at, empty_plan, saturate}
use Rattle.plan_rules.specs.World.{Query}
use Rattle.plan_rules.specs.Outcome.{Outcome}
use Rattle.plan_rules.proofs.Cases.Opened.{opened}
use Rattle.plan_rules.specs.Samples.{whole, spot, page, sheet_of_lists, batch_of, text_at_spot, node_of, refer, cell_of, viewing}
use Rattle.totals.specs.Proxies.{listed_proxies, dropped_proxies}
use Rattle.paths.proofs.Square.{box_is}
use Rattle.cover.specs.Path.{Path, Item, a_batch, a_text, a_point, member_at, to_batch, to_text, to_reference, through_member_lem, at_batch, at_text, at_point, step, LeadsTo}
use Rattle.cover.specs.View.{text_position, WithinBox, InView}
use Rattle.cover.specs.Trace.{Trace, events, All, and_then, Any, here, before, text_record}
use Rattle.geometry.specs.Bbox.{source_is_degenerate}
use Rattle.screen.specs.Screen.{screen_size}
use Rattle.cover.specs.Covered.{UnderOnePixel, Lists, lists_batch, lists_text, lists_point, IsSkip, batch_skip, Skipped, skipped_member_lem, skipped_batch_lem, DroppedWhenFull, Covers, Covered, listed, within_proxy, within_dropped_proxy, in_skipped}
use Rattle.cover.specs.Demand3.{LosesNothing, events_of, IsTape}
use Rattle.cover.proofs.Examples.Decided.{is_square_box, square_box}
use Rattle.cover.proofs.Examples.Boxes.{whole_same, box, box_holds, without_totals}

-- ---- how an event covers a path, by the event

module _ (S : Sheet) (q : Query) where
  abbrev CoverOf : Path → Item → Path → Event → Type 0
  CoverOf p h place (batch n m) = (p ≡ place) × Lists h (batch n m)
  CoverOf p h place (text n v) = (p ≡ place) × Lists h (text n v)
  CoverOf p h place (point l k v) = (p ≡ place) × Lists h (point l k v)
  CoverOf p h place (proxy y l b) = (z : IntegerBox) × IsBox b z × WithinBox h z
  CoverOf p h place (dropped_proxy y l b) = (z : IntegerBox) × IsBox b z × WithinBox h z
  CoverOf p h place (skipped_member g b) = Skipped S q place (skipped_member g b)
  CoverOf p h place (skipped_batch b) = Skipped S q place (skipped_batch b)
  CoverOf p h place culled_reference = ⊥
  CoverOf p h place culled_batch = ⊥
  CoverOf p h place detail_cell = ⊥
  CoverOf p h place (totals s) = ⊥

  listed_cover : (p : Path) (h : Item) (e : Event) → Lists h e → CoverOf p h p e
  listed_cover p h e (lists_batch i) = (refl, lists_batch i)
  listed_cover p h e (lists_text i) = (refl, lists_text i)
  listed_cover p h e (lists_point i) = (refl, lists_point i)

  skipped_cover : (p : Path) (h : Item) (place : Path) (e : Event) → Skipped S q place e → CoverOf p h place e
  skipped_cover p h place e (skipped_member_lem b r f eb c< r< i u) = skipped_member_lem b r f eb c< r< i u
  skipped_cover p h place e (skipped_batch_lem r f i u) = skipped_batch_lem r f i u

  cover_of : {p : Path} {h : Item} {place : Path} {e : Event} → Covers S q p h place e → CoverOf p h place e
  cover_of {p = p} {h = h} {e = e} (listed l) = listed_cover p h e l
  cover_of (within_proxy {z = z} i w) = (z, i, w)
  cover_of (within_dropped_proxy {z = z} i w) = (z, i, w)
  cover_of {p = p} {h = h} {place = place} {e = e} (in_skipped r s z) = skipped_cover p h place e s

-- ---- one text: document 01's worked sheet

abbrev label : PreparedText
label = text_at_spot 10 20

abbrev label_cell : CellRecord
label_cell = cell_of 1 (page 100 100) [] (0 ∷ []) [] []

abbrev labelled : Sheet
labelled = sheet_of_lists [] (label ∷ []) [] [] (label_cell ∷ [])

abbrev see : ℕ → Query
see limit = viewing (page 100 100) (whole 1) 1 limit

abbrev label_path : Path
label_path = text_at 0 ∷ []

leads : LeadsTo labelled 0 label_path (a_text 0 label identity)
leads = step (to_text {n = 0} {i = 0} {c = label_cell} refl (omega arith)) (at_text refl)

-- the point (x, y) at the identity lies in a box from (0, 0)
held : (w h x y : ℕ) → w ≤ 1000 → h ≤ 1000 → x ≤ w → y ≤ h → Holds (box_of (page w h)) (text_position (text_at_spot x y) identity)
held w h x y p q r s =
    let k = box_holds 0 0 w h x y (record { x = omega arith; y = omega arith; right = omega arith; top = omega arith }) (omega arith) (omega arith) r s in
    let l = k.left in
    let u = k.right in
    let b = k.bottom in
    let t = k.top in
    record { left = omega arith; right = omega arith; bottom = omega arith; top = omega arith }

seen : InView (page 100 100) (a_text 0 label identity)
seen = held 100 100 10 20 (omega arith) (omega arith) (omega arith) (omega arith)

abbrev Lost : (limit : ℕ) → Trace → Type 0
Lost limit trace = LosesNothing labelled (see limit) trace → ⊥

-- what the rules leave where no object may be listed: the cell's box
limit_plan : events labelled 1 (see 0) (replicate 1 0) (replicate 3 0) ≡ ([], totals (record { tape_end = 42; texts = 0; load_proxies = 1; detail_cells = 0; detail_objects = 0; culled_references = 0; skipped_subpixel_references = 0; culled_geometry_batches = 0; skipped_subpixel_geometry_batches = 0; dropped_load_proxies = 0 }))
    ∷ ([], proxy reason.OtherLimit 0 (page 100 100)) ∷ []
unfolding opened
limit_plan = refl

-- the box left out
load_left_out : Lost 0 (([], totals empty_plan) ∷ [])
load_left_out l = by (l.covered label_path (a_text 0 label identity) leads seen tt)
  where
    by : Any (λ (x : Path × Event). Covers labelled (see 0) label_path (a_text 0 label identity) x.0 x.1) (([], totals empty_plan) ∷ []) → ⊥
    by (here c) = cover_of labelled (see 0) c
    by (before a) = elim a [ ]

-- a box that does not hold the text
wrong_box : Lost 0 (([], totals empty_plan) ∷ ([], proxy reason.OtherLimit 0 (page 15 15)) ∷ [])
wrong_box l = by (l.covered label_path (a_text 0 label identity) leads seen tt)
  where
    outside : (z : IntegerBox) → IsBox (page 15 15) z → Holds z (text_position label identity) → ⊥
    outside z i h =
        let k = h.top in
        let e = integer_of_same (whole 15) z.max_y i.max_y in
        let f = whole_same 15 (omega arith) in
        let g = whole_same 20 (omega arith) in
        let y : ⊥ = omega arith in
        y

    by : Any (λ (x : Path × Event). Covers labelled (see 0) label_path (a_text 0 label identity) x.0 x.1) (([], totals empty_plan) ∷ ([], proxy reason.OtherLimit 0 (page 15 15)) ∷ []) → ⊥
    by (here c) = cover_of labelled (see 0) c
    by (before (here c)) = let k = cover_of labelled (see 0) c in outside k.0 k.1 k.2
    by (before (before a)) = elim a [ ]

-- a path listed twice
twice : Lost 20000 ((label_path, text 0 (spot 10 20)) ∷ (label_path, text 0 (spot 10 20)) ∷ [])
twice l = l.once.0 text_record (here (text_record, refl))

-- a proxy dropped before 100,000 are listed
dropped_early : Lost 0 (([], dropped_proxy reason.OtherLimit 0 (page 100 100)) ∷ [])
dropped_early l = let e = l.dropped.0 reason.OtherLimit 0 (page 100 100) refl in let y : ⊥ = omega arith in y

-- ---- one batch, 1 wide and 100 high

abbrev strip : PreparedGeometry
strip = batch_of 1 (page 1 100)

abbrev strip_cell : CellRecord
strip_cell = cell_of 1 (page 1 100) (0 ∷ []) [] [] []

abbrev striped : Sheet
striped = sheet_of_lists (strip ∷ []) [] [] [] (strip_cell ∷ [])

-- at half a pixel a unit it measures 0.5 by 50 px
abbrev half : Query
half = viewing (page 100 100) (fin false 1 (negsuc 0)) 1 20000

strip_leads : LeadsTo striped 0 (batch_at 0 ∷ []) (a_batch 0 strip identity)
strip_leads = step (to_batch {n = 0} {i = 0} {c = strip_cell} refl (omega arith)) (at_batch refl)

strip_seen : InView (page 100 100) (a_batch 0 strip identity)
strip_seen =
    let a = whole_same 0 (omega arith) in
    let b = whole_same 1 (omega arith) in
    let c = whole_same 100 (omega arith) in
    (omega arith, record { left = omega arith; right = omega arith; bottom = omega arith; top = omega arith })

-- the rules list it
strip_plan : without_totals (events striped 1 half (replicate 1 0) (replicate 3 0)) ≡ (batch_at 0 ∷ [], batch 0 IDENTITY) ∷ ([], detail_cell) ∷ []
unfolding opened
strip_plan = refl

-- its height is not under one pixel
tall : (b : WorldBBox) → b ≡ page 1 100 → UnderOnePixel (screen_size b half.zoom) → ⊥
unfolding opened is_under_one_pixel
tall b e u = subst (λ (b : WorldBBox). UnderOnePixel (screen_size b half.zoom)) e u

-- what is said to be skipped is measured so, if it is a batch
measured : (p : Path) (e : Event) → Skipped striped half p e → ((b : WorldBBox) × (e ≡ skipped_batch b) × UnderOnePixel (screen_size b half.zoom)) ⊎ ((g : Bool) × (b : WorldBBox) × (e ≡ skipped_member g b))
measured p e (skipped_member_lem {box = b} sb r f eb c< r< i u) = inr (source_is_degenerate sb, b, refl)
measured p e (skipped_batch_lem {box = b} r f i u) = inl (b, refl, u)

not_skipped : ((b : WorldBBox) × (skipped_batch (page 1 100) ≡ skipped_batch b) × UnderOnePixel (screen_size b half.zoom)) ⊎ ((g : Bool) × (b : WorldBBox) × (skipped_batch (page 1 100) ≡ skipped_member g b)) → ⊥
not_skipped (inl k) = let e = k.1 in let z : k.0 ≡ page 1 100 = cc in tall k.0 z k.2
not_skipped (inr k) = absurd (let e = k.2 in let y : ◌≡◌ {A = ℕ} 0 1 = cc in let w : ⊥ = omega arith in w)

-- skipped for its width alone
skipped_on_one_side : LosesNothing striped half ((batch_at 0 ∷ [], skipped_batch (page 1 100)) ∷ ([], detail_cell) ∷ []) → ⊥
skipped_on_one_side l = by l.skipped
  where
    by : All (λ (x : Path × Event). IsSkip x.1 → Skipped striped half x.0 x.1) ((batch_at 0 ∷ [], skipped_batch (page 1 100)) ∷ ([], detail_cell) ∷ []) → ⊥
    by (and_then f k) = not_skipped (measured (batch_at 0 ∷ []) (skipped_batch (page 1 100)) (f batch_skip))

-- culled though it crosses the view's lower left corner
wrong_edge : LosesNothing striped half ((batch_at 0 ∷ [], culled_batch) ∷ ([], detail_cell) ∷ []) → ⊥
wrong_edge l = by (l.covered (batch_at 0 ∷ []) (a_batch 0 strip identity) strip_leads strip_seen tt)
  where
    by : Any (λ (x : Path × Event). Covers striped half (batch_at 0 ∷ []) (a_batch 0 strip identity) x.0 x.1) ((batch_at 0 ∷ [], culled_batch) ∷ ([], detail_cell) ∷ []) → ⊥
    by (here c) = cover_of striped half c
    by (before (here c)) = cover_of striped half c
    by (before (before a)) = elim a [ ]

-- ---- a circle: cell 0 holds the text and itself

abbrev again : PreparedReference
again = refer 1 1 0 0 (Cell 0) (page 100 100)

abbrev circular_cell : CellRecord
circular_cell = cell_of 1 (page 100 100) [] (0 ∷ []) [] (0 ∷ [])

abbrev circular : Sheet
circular = sheet_of_lists [] (label ∷ []) [] (again ∷ []) (circular_cell ∷ [])

abbrev deep : Query
deep = viewing (page 100 100) (whole 1) 3 20000

-- the text, once round
abbrev round_path : Path
round_path = reference_at 0 ∷ member 0 0 ∷ text_at 0 ∷ []

abbrev once : ExactPlacement
once = member_at identity again 0 0

round_leads : LeadsTo circular 0 round_path (a_text 0 label once)
round_leads = step (to_reference {n = 0} {i = 0} {c = circular_cell} refl (omega arith)) (step (through_member_lem {n = 0} {column = 0} {row = 0} {r = again} refl (omega arith) (omega arith)) (step (to_text {n = 0} {i = 0} {c = circular_cell} refl (omega arith)) (at_text refl)))

round_seen : InView (page 100 100) (a_text 0 label once)
unfolding opened
round_seen = record { left = omega arith; right = omega arith; bottom = omega arith; top = omega arith }

-- the rules end the circle in a proxy
circle_plan : without_totals (events circular 1 deep (replicate 3 0) (replicate 5 0))
    ≡ (reference_at 0 ∷ member 0 0 ∷ [], proxy reason.Circle 0 (page 100 100)) ∷ (text_at 0 ∷ [], text 0 (spot 10 20)) ∷ ([], detail_cell) ∷ []
unfolding opened
circle_plan = refl

-- how many steps
steps : Path → ℕ
steps [] = 0
steps (s ∷ p) = 1 + steps p

-- without it
skipped_at_circle : LosesNothing circular deep ((text_at 0 ∷ [], text 0 (spot 10 20)) ∷ ([], detail_cell) ∷ []) → ⊥
unfolding steps
skipped_at_circle l = by (l.covered round_path (a_text 0 label once) round_leads round_seen tt)
  where
    by : Any (λ (x : Path × Event). Covers circular deep round_path (a_text 0 label once) x.0 x.1) ((text_at 0 ∷ [], text 0 (spot 10 20)) ∷ ([], detail_cell) ∷ []) → ⊥
    by (here c) = let k = ap steps (cover_of circular deep c).0 in let y : ⊥ = omega arith in y
    by (before (here c)) = cover_of circular deep c
    by (before (before a)) = elim a [ ]

-- ---- a grid of two bare nodes, each with two points, where one object may be listed

abbrev dots : NodeRecord
dots = node_of (spot 10 20 ∷ spot 40 50 ∷ [])

abbrev dot_grid : PreparedReference
dot_grid = refer 1 2 0 40 (Node 0) (box 10 20 40 50)

abbrev dotted_cell : CellRecord
dotted_cell = cell_of 0 (page 100 100) [] [] [] (0 ∷ [])

abbrev dotted : Sheet
dotted = sheet_of_lists [] [] (dots ∷ []) (dot_grid ∷ []) (dotted_cell ∷ [])

abbrev short : Query
short = viewing (page 100 100) (whole 1) 3 1

-- the first member up to the limit, as the Rust leaves it
abbrev first_member : Trace
first_member = (reference_at 0 ∷ member 0 0 ∷ [], proxy reason.OtherLimit no_label (box 10 20 40 50)) ∷ (reference_at 0 ∷ member 0 0 ∷ point_at 0 ∷ [], point 1 2 (spot 10 20)) ∷ ([], detail_cell) ∷ []

-- the rules add the box of the whole reference
dots_plan : without_totals (events dotted 1 short (replicate 3 0) (replicate 5 0)) ≡ (reference_at 0 ∷ [], proxy reason.OtherLimit no_label (box 10 20 40 90)) ∷ first_member
unfolding opened
dots_plan = refl

-- the second point of the second member
abbrev late_path : Path
late_path = reference_at 0 ∷ member 0 1 ∷ point_at 1 ∷ []

abbrev late_dot : Item
late_dot = a_point 0 dots 1 (member_at identity dot_grid 0 1)

late_leads : LeadsTo dotted 0 late_path late_dot
late_leads = step (to_reference {n = 0} {i = 0} {c = dotted_cell} refl (omega arith)) (step (through_member_lem {n = 0} {column = 0} {row = 1} {r = dot_grid} refl (omega arith) (omega arith)) (at_point {j = 1} {x = dots} refl (omega arith)))

late_seen : InView (page 100 100) late_dot
unfolding opened
late_seen = record { left = omega arith; right = omega arith; bottom = omega arith; top = omega arith }

-- it stands at (40, 90), which the member's box does not hold
beyond : (z : IntegerBox) → IsBox (box 10 20 40 50) z → WithinBox late_dot z → ⊥
unfolding opened
beyond z i h =
    let k = h.top in
    let e = integer_of_same (whole 50) z.max_y i.max_y in
    let f = whole_same 50 (omega arith) in
    let y : ⊥ = omega arith in
    y

-- without that box
reference_box_left_out : LosesNothing dotted short first_member → ⊥
reference_box_left_out l = by (l.covered late_path late_dot late_leads late_seen tt)
  where
    by : Any (λ (x : Path × Event). Covers dotted short late_path late_dot x.0 x.1) first_member → ⊥
    by (here c) = let k = cover_of dotted short c in beyond k.0 k.1 k.2
    by (before (here c)) = let e = (cover_of dotted short c).0 in let z : ◌≡◌ {A = ℕ} 0 1 = cc in let y : ⊥ = omega arith in y
    by (before (before (here c))) = cover_of dotted short c
    by (before (before (before a))) = elim a [ ]

-- ---- a dropped proxy invented, behind a full list of boxes that do not hold the text

abbrev elsewhere : Path × Event
elsewhere = ([], proxy reason.OtherLimit 0 (page 5 5))

abbrev invented : ℕ → Trace
invented n = ([], dropped_proxy reason.OtherLimit 0 (page 100 100)) ∷ replicate n elsewhere

-- the words allow it behind 100,000, and it covers the text
all_listed : (n : ℕ) → listed_proxies (replicate n elsewhere) ≡ n
all_listed zero = refl
all_listed (suc n) = ap (λ (k : ℕ). 1 + k) (all_listed n) ∙ (omega arith)

none_dropped : (n : ℕ) → DroppedWhenFull (replicate n elsewhere)
none_dropped zero = tt
none_dropped (suc n) = (λ why label box e. absurd (let z : ◌≡◌ {A = ℕ} 0 1 = cc in let y : ⊥ = omega arith in y), none_dropped n)

-- and counts none of the boxes before it
none_dropped_elsewhere : (n : ℕ) → dropped_proxies (replicate n elsewhere) ≡ 0
none_dropped_elsewhere zero = refl
none_dropped_elsewhere (suc n) = omega (arith, none_dropped_elsewhere n)

invented_when_full : (n : ℕ) → n ≡ max_load_proxies → DroppedWhenFull (invented n)
invented_when_full n full = (λ why label box e. all_listed n ∙ full, none_dropped n)

invented_covers : (n : ℕ) → Covered labelled (see 0) label_path (a_text 0 label identity) (invented n)
invented_covers n = here (within_dropped_proxy (box_is (page 100 100) (square_box (page 100 100) passes)) seen)
  where
    passes : Yes (is_square_box (page 100 100))
    passes = unfold opened in tt

abbrev newest : Trace → Event
newest [] = detail_cell
newest (x ∷ l) = x.1

-- but the totals do not count it
invented_uncounted : (n : ℕ) → Lost 0 (([], totals empty_plan) ∷ invented n)
unfolding empty_plan saturate
invented_uncounted n l =
    let c = l.counted in
    let said : totals empty_plan ≡ totals c.0 = c.1 in
    let same : empty_plan ≡ c.0 = cc in
    let none : 0 ≡ c.0.dropped_load_proxies = ap (λ (s : ScenePlan). s.dropped_load_proxies) same in
    let y : ⊥ = omega (arith, c.2, none_dropped_elsewhere n) in
    y

-- and it is not what the rules leave, as `IsTape` asks
dropped_invented : (n : ℕ) → without_totals (events labelled 1 (see 0) (replicate 1 0) (replicate 3 0)) ≡ invented n → ⊥
dropped_invented n e = let f = ap newest (sym (ap without_totals limit_plan) ∙ e) in let z : ◌≡◌ {A = ℕ} 0 1 = cc in let y : ⊥ = omega arith in y

-- of any call: no event can be added, written or not
event_added : (sheet : List ℕ) (q : Query) (o : Outcome) (lent : List ℕ) (x : Path × Event) → IsTape sheet q o (x ∷ events_of sheet q) lent → ⊥
event_added sheet q o lent x t = let e = ap length t.ran in let y : ⊥ = omega arith in y
