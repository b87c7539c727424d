-- ONE SHEET OF BYTES with a record of every kind and a reference to every kind: a turned grid of a cell, a reflected reference to a text, a reference to that reference, a grid of a bare node,
-- a circle, and a batch reflected and turned; its numbers have both signs. It is square with true boxes, and accepted, so demand 3 holds of the output of a call.
-- Two plans are computed: in one the node grid meets a limit.
-- Assumes nothing.
use mathlib.Core.Path.{◌≡◌, refl}
use mathlib.Core.Bool.{Bool, true, false}
use mathlib.Core.List.{List, [], ◌∷◌}
use Prim.Native.Nat.{ℕ}
use native.Mathlib.Omega.{arith}
use lib.Dec.{T as Yes}
use lib.IntN.{pos}
use lib.Ieee.{Float, fin, le}
use lib.ListN.{replicate}
use Rattle.fields.specs.Field.{Field, record_bytes}
use Rattle.geometry.specs.declared.placement.DVec2.{DVec2}
use Rattle.geometry.specs.declared.placement.Placement.{Placement}
use Rattle.geometry.specs.declared.bbox.WorldBBox.{WorldBBox}
use Rattle.geometry.specs.Bbox.{bbox}
use Rattle.records.specs.declared.PreparedSource.{PreparedSource}
use Rattle.records.specs.declared.PreparedSource.TheVariants.{Geometry, Text, Node, Reference, Cell}
use Rattle.abstract_sheet.specs.Sheet.{sheet_of}
use Rattle.exact.specs.Screen.{zoom_power, ZoomWithin}
use Rattle.plan_rules.specs.Limits.{max_scene_objects}
use Rattle.plan_rules.specs.declared.Reason.TheVariants as reason
use Rattle.plan_rules.specs.Event.{batch, text, point, proxy, detail_cell, batch_at, text_at, node_at, reference_at, member, point_at}
use Rattle.plan_rules.specs.World.{Query}
use Rattle.records.specs.Sources.{no_label}
use Rattle.plan_rules.specs.Outcome.{Outcome, outcome_of}
use Rattle.plan_rules.specs.Samples.{whole, viewing}
use Rattle.plan_rules.proofs.Cases.Opened.{opened}
use Rattle.plan_rules.proofs.Cases.OpenedSheet.{opened_sheet}
use Rattle.paths.specs.Square.{SquareBox, Square, FewMembers}
use Rattle.paths.specs.TrueBoxes.{TrueBoxes}
use Rattle.cover.specs.Trace.{Trace}
use Rattle.cover.specs.Demand3.{LosesNothing, events_of, IsTape}
use Rattle.paths.proofs.Square.{box_is}
use Rattle.cover.proofs.AcceptedCall.{demand_3}
use Rattle.cover.proofs.Demand3.{demand_3_of_rules}
use Rattle.cover.proofs.Examples.Boxes.{without_totals}
use Rattle.cover.proofs.Examples.Fields.{minus, at, batch_fields, text_fields, node_fields, magnified_fields, cell_fields}
use Rattle.cover.proofs.Examples.Decided.{is_square_box, square_box, is_square, square_sheet, has_true_boxes, true_boxes_sheet, has_few_members, few_members_sheet}

-- columns, rows, reflected, source, origin, the two spacings, cos and sin, source box; magnification 1
abbrev reference_fields : ℕ → ℕ → Bool → PreparedSource → DVec2 → DVec2 → DVec2 → DVec2 → WorldBBox → List Field → List Field
reference_fields columns rows reflected source origin spacingX spacingY turn b rest = magnified_fields columns rows reflected source origin spacingX spacingY (whole 1) turn b rest

-- ---- the sheet

abbrev outer_box : WorldBBox
outer_box = bbox (minus 150) (minus 100) (whole 150) (whole 100)

abbrev inner_box : WorldBBox
inner_box = bbox (minus 10) (minus 20) (whole 30) (whole 40)

abbrev origin : DVec2
origin = at (whole 0) (whole 0)

unfoldable pub every_kind : List ℕ
every_kind =
    record_bytes
    -- batch 0 has three elements; text 0; node 0
    (batch_fields 3 inner_box
    (text_fields (at (minus 5) (whole 7))
    (node_fields (at (minus 30) (whole 0)) (at (whole 0) (whole 30))
    -- reference 0: cell 1, turned a quarter, 2 × 2
    (reference_fields 2 2 false (Cell 1) (at (whole 100) (minus 50)) (at (whole 50) (whole 0)) (at (whole 0) (whole 70)) (at (whole 0) (whole 1)) inner_box
    -- reference 1: text 0, reflected; reference 2: reference 1, turned three quarters
    (reference_fields 1 1 true (Text 0) (at (minus 60) (minus 70)) origin origin (at (whole 1) (whole 0)) (bbox (minus 5) (whole 7) (minus 5) (whole 7))
    (reference_fields 1 1 false (Reference 1) (at (whole 7) (minus 5)) origin origin (at (whole 0) (minus 1)) (bbox (minus 65) (minus 77) (minus 65) (minus 77))
    -- reference 3: node 0, 1 × 3; reference 4: cell 0; reference 5: batch 0, reflected and turned a half
    (reference_fields 1 3 false (Node 0) (at (minus 100) (minus 90)) origin (at (whole 0) (whole 40)) (at (whole 1) (whole 0)) (bbox (minus 30) (whole 0) (whole 0) (whole 30))
    (reference_fields 1 1 false (Cell 0) origin origin origin (at (whole 1) (whole 0)) outer_box
    (reference_fields 1 1 true (Geometry 0) (at (minus 100) (whole 50)) origin origin (at (minus 1) (whole 0)) inner_box
    -- cell 0 has node 0 and all references but reference 1; cell 1 has batch 0 and text 0
    (cell_fields 0 outer_box [] [] (0 ∷ []) (0 ∷ 2 ∷ 3 ∷ 4 ∷ 5 ∷ [])
    (cell_fields 2 inner_box (0 ∷ []) (0 ∷ []) [] [] [])))))))))))

-- ---- square with true boxes

pub square : Square (sheet_of every_kind)
square = square_sheet every_kind passes
  where
    passes : Yes (is_square every_kind)
    passes = unfold every_kind opened opened_sheet in tt

pub true_boxes : TrueBoxes (sheet_of every_kind)
true_boxes = true_boxes_sheet every_kind passes
  where
    passes : Yes (has_true_boxes every_kind)
    passes = unfold every_kind opened opened_sheet in tt

-- ---- the call

-- view −150, −100, 150, 100, zoom 1, depth 3
abbrev query : ℕ → Query
query limit = viewing outer_box (whole 1) 3 limit

-- turned a quarter, and moved by (x, y)
abbrev turned : Float → Float → Placement
turned x y = record { xx = whole 0; xy = whole 1; yx = minus 1; yy = whole 0; tx = x; ty = y }

-- x negated, and moved by (−100, 50)
abbrev mirrored : Placement
mirrored = record { xx = minus 1; xy = whole 0; yx = whole 0; yy = whole 1; tx = minus 100; ty = whole 50 }

-- the plan, the newest event first, without the totals: five batches, five texts and eight points are listed; the circle ends in a proxy
pub whole_plan : without_totals (events_of every_kind (query max_scene_objects))
    ≡ (reference_at 4 ∷ member 0 0 ∷ [], batch 0 mirrored)
    ∷ (reference_at 3 ∷ member 0 0 ∷ [], proxy reason.Circle 0 outer_box)
    ∷ (reference_at 2 ∷ member 0 2 ∷ point_at 1 ∷ [], point 1 2 (at (minus 100) (whole 20))) ∷ (reference_at 2 ∷ member 0 2 ∷ point_at 0 ∷ [], point 1 2 (at (minus 130) (minus 10)))
    ∷ (reference_at 2 ∷ member 0 1 ∷ point_at 1 ∷ [], point 1 2 (at (minus 100) (minus 20))) ∷ (reference_at 2 ∷ member 0 1 ∷ point_at 0 ∷ [], point 1 2 (at (minus 130) (minus 50)))
    ∷ (reference_at 2 ∷ member 0 0 ∷ point_at 1 ∷ [], point 1 2 (at (minus 100) (minus 60))) ∷ (reference_at 2 ∷ member 0 0 ∷ point_at 0 ∷ [], point 1 2 (at (minus 130) (minus 90)))
    ∷ (reference_at 1 ∷ member 0 0 ∷ member 0 0 ∷ [], text 0 (at (minus 70) (whole 60)))
    ∷ (reference_at 0 ∷ member 1 1 ∷ text_at 0 ∷ [], text 0 (at (whole 23) (minus 5))) ∷ (reference_at 0 ∷ member 1 1 ∷ batch_at 0 ∷ [], batch 0 (turned (whole 30) (whole 0))) ∷ (reference_at 0 ∷ member 1 1 ∷ [], detail_cell)
    ∷ (reference_at 0 ∷ member 1 0 ∷ text_at 0 ∷ [], text 0 (at (whole 93) (minus 5))) ∷ (reference_at 0 ∷ member 1 0 ∷ batch_at 0 ∷ [], batch 0 (turned (whole 100) (whole 0))) ∷ (reference_at 0 ∷ member 1 0 ∷ [], detail_cell)
    ∷ (reference_at 0 ∷ member 0 1 ∷ text_at 0 ∷ [], text 0 (at (whole 23) (minus 55))) ∷ (reference_at 0 ∷ member 0 1 ∷ batch_at 0 ∷ [], batch 0 (turned (whole 30) (minus 50))) ∷ (reference_at 0 ∷ member 0 1 ∷ [], detail_cell)
    ∷ (reference_at 0 ∷ member 0 0 ∷ text_at 0 ∷ [], text 0 (at (whole 93) (minus 55))) ∷ (reference_at 0 ∷ member 0 0 ∷ batch_at 0 ∷ [], batch 0 (turned (whole 100) (minus 50))) ∷ (reference_at 0 ∷ member 0 0 ∷ [], detail_cell)
    ∷ (node_at 0 ∷ point_at 1 ∷ [], point 1 2 (at (whole 0) (whole 30))) ∷ (node_at 0 ∷ point_at 0 ∷ [], point 1 2 (at (minus 30) (whole 0)))
    ∷ ([], detail_cell) ∷ []
unfolding every_kind opened opened_sheet
whole_plan = refl

-- with 14 objects the node grid meets the limit at its second member, which is boxed, and then the whole reference; the loop over the cell's references stops, and the cell is boxed
pub limited_plan : without_totals (events_of every_kind (query 14))
    ≡ ([], proxy reason.OtherLimit 0 outer_box)
    ∷ (reference_at 2 ∷ [], proxy reason.OtherLimit no_label (bbox (minus 130) (minus 90) (minus 100) (whole 20))) ∷ (reference_at 2 ∷ member 0 1 ∷ [], proxy reason.OtherLimit no_label (bbox (minus 130) (minus 50) (minus 100) (minus 20)))
    ∷ (reference_at 2 ∷ member 0 1 ∷ point_at 0 ∷ [], point 1 2 (at (minus 130) (minus 50)))
    ∷ (reference_at 2 ∷ member 0 0 ∷ point_at 1 ∷ [], point 1 2 (at (minus 100) (minus 60))) ∷ (reference_at 2 ∷ member 0 0 ∷ point_at 0 ∷ [], point 1 2 (at (minus 130) (minus 90)))
    ∷ (reference_at 1 ∷ member 0 0 ∷ member 0 0 ∷ [], text 0 (at (minus 70) (whole 60)))
    ∷ (reference_at 0 ∷ member 1 1 ∷ text_at 0 ∷ [], text 0 (at (whole 23) (minus 5))) ∷ (reference_at 0 ∷ member 1 1 ∷ batch_at 0 ∷ [], batch 0 (turned (whole 30) (whole 0))) ∷ (reference_at 0 ∷ member 1 1 ∷ [], detail_cell)
    ∷ (reference_at 0 ∷ member 1 0 ∷ text_at 0 ∷ [], text 0 (at (whole 93) (minus 5))) ∷ (reference_at 0 ∷ member 1 0 ∷ batch_at 0 ∷ [], batch 0 (turned (whole 100) (whole 0))) ∷ (reference_at 0 ∷ member 1 0 ∷ [], detail_cell)
    ∷ (reference_at 0 ∷ member 0 1 ∷ text_at 0 ∷ [], text 0 (at (whole 23) (minus 55))) ∷ (reference_at 0 ∷ member 0 1 ∷ batch_at 0 ∷ [], batch 0 (turned (whole 30) (minus 50))) ∷ (reference_at 0 ∷ member 0 1 ∷ [], detail_cell)
    ∷ (reference_at 0 ∷ member 0 0 ∷ text_at 0 ∷ [], text 0 (at (whole 93) (minus 55))) ∷ (reference_at 0 ∷ member 0 0 ∷ batch_at 0 ∷ [], batch 0 (turned (whole 100) (minus 50))) ∷ (reference_at 0 ∷ member 0 0 ∷ [], detail_cell)
    ∷ (node_at 0 ∷ point_at 1 ∷ [], point 1 2 (at (whole 0) (whole 30))) ∷ (node_at 0 ∷ point_at 0 ∷ [], point 1 2 (at (minus 30) (whole 0)))
    ∷ ([], detail_cell) ∷ []
unfolding every_kind opened opened_sheet
limited_plan = refl

-- ---- demand 3 holds of both

view_square : SquareBox outer_box
view_square = square_box outer_box passes
  where
    passes : Yes (is_square_box outer_box)
    passes = unfold opened in tt

-- of the output of a call: two cells at depth 3 name 6 counts and 10 marks, and the tape has 732 bytes
abbrev out : List ℕ
out = replicate 732 7

abbrev call : Outcome
call = outcome_of every_kind (query max_scene_objects) out (replicate 6 8) (replicate 10 9)

accepted : call.number ≡ 0
unfolding every_kind opened opened_sheet
accepted = refl

pub whole_plan_loses_nothing : (trace : Trace) × IsTape every_kind (query max_scene_objects) call trace out × LosesNothing (sheet_of every_kind) (query max_scene_objects) trace
whole_plan_loses_nothing = demand_3 every_kind (query max_scene_objects) out (replicate 6 8) (replicate 10 9) square true_boxes (box_is outer_box view_square) zoom accepted
  where
    zoom : Yes (le (whole 1) (fin false 1 (pos zoom_power)))
    zoom = unfold opened in tt

-- of the rules, with 14 objects
few : FewMembers (sheet_of every_kind)
few = few_members_sheet every_kind passes
  where
    passes : Yes (has_few_members every_kind)
    passes = unfold every_kind opened opened_sheet in tt

zoom_one : ZoomWithin (whole 1)
unfolding opened
zoom_one = record { positive = tt; most = tt }

pub limited_plan_loses_nothing : LosesNothing (sheet_of every_kind) (query 14) (events_of every_kind (query 14))
limited_plan_loses_nothing =
    demand_3_of_rules (sheet_of every_kind) square true_boxes few (query 14) (record { view = box_is outer_box view_square; zoom = zoom_one; depth = omega arith }) _ _ _
