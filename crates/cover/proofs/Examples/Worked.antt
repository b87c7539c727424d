-- Document 01's worked example, from its bytes: "Cell 0 has box 0, 0, 100, 100 and one text at (10, 20), layer 1; view 0, 0, 100, 100, zoom 1, depth 1." The sheet is square with true
-- boxes, the call is accepted, and so demand 3 holds of its output; the text's path is listed.
-- Assumes nothing.
use mathlib.Core.Path.{◌≡◌, refl}
use mathlib.Core.Bool.{false}
use mathlib.Core.List.{List, [], ◌∷◌}
use Prim.Native.Nat.{ℕ}
use lib.Dec.{T as Yes}
use lib.IntN.{pos}
use lib.Ieee.{fin, le}
use lib.ListN.{replicate}
use Rattle.abstract_sheet.specs.Sheet.{Sheet, sheet_of}
use Rattle.abstract_sheet.proofs.Examples.{worked_text, worked_cell, worked_sheet}
use Rattle.exact.specs.Screen.{zoom_power}
use Rattle.plan_rules.specs.Limits.{max_scene_objects}
use Rattle.plan_rules.specs.Event.{text, detail_cell, text_at}
use Rattle.plan_rules.specs.World.{Query}
use Rattle.plan_rules.specs.Outcome.{outcome_of}
use Rattle.plan_rules.specs.Samples.{whole, spot, page, viewing}
use Rattle.plan_rules.proofs.Cases.Opened.{opened}
use Rattle.plan_rules.proofs.Cases.OpenedSheet.{opened_sheet}
use Rattle.paths.specs.Square.{Square}
use Rattle.paths.specs.TrueBoxes.{TrueBoxes}
use Rattle.cover.specs.Trace.{Trace}
use Rattle.cover.specs.Demand3.{LosesNothing, events_of, IsTape}
use Rattle.paths.proofs.Square.{box_is}
use Rattle.cover.proofs.AcceptedCall.{demand_3}
use Rattle.cover.proofs.Examples.Boxes.{without_totals}
use Rattle.cover.proofs.Examples.Decided.{is_square_box, square_box, is_square, square_sheet, has_true_boxes, true_boxes_sheet}

abbrev sheet : Sheet
sheet = sheet_of worked_sheet

-- ---- square with true boxes

square : Square sheet
square = square_sheet worked_sheet passes
  where
    passes : Yes (is_square worked_sheet)
    passes = unfold worked_sheet worked_text worked_cell opened opened_sheet in tt

true_boxes : TrueBoxes sheet
true_boxes = true_boxes_sheet worked_sheet passes
  where
    passes : Yes (has_true_boxes worked_sheet)
    passes = unfold worked_sheet worked_text worked_cell opened opened_sheet in tt

-- ---- the call

abbrev query : Query
query = viewing (page 100 100) (whole 1) 1 max_scene_objects

-- the text's path is listed
pub worked_plan : without_totals (events_of worked_sheet query) ≡ (text_at 0 ∷ [], text 0 (spot 10 20)) ∷ ([], detail_cell) ∷ []
unfolding worked_sheet worked_text worked_cell opened opened_sheet
worked_plan = refl

-- 88 bytes of output, 1 count and 3 marks are enough
abbrev out : List ℕ
out = replicate 88 7

accepted : (outcome_of worked_sheet query out (replicate 1 8) (replicate 3 9)).number ≡ 0
unfolding worked_sheet worked_text worked_cell opened opened_sheet
accepted = refl

pub worked_loses_nothing : (trace : Trace) × IsTape worked_sheet query (outcome_of worked_sheet query out (replicate 1 8) (replicate 3 9)) trace out × LosesNothing sheet query trace
worked_loses_nothing = demand_3 worked_sheet query out (replicate 1 8) (replicate 3 9) square true_boxes (box_is (page 100 100) (square_box (page 100 100) view)) zoom accepted
  where
    view : Yes (is_square_box (page 100 100))
    view = unfold opened in tt

    zoom : Yes (le (whole 1) (fin false 1 (pos zoom_power)))
    zoom = unfold opened in tt
