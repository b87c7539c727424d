-- A SHEET TURNED BY AN ODD ANGLE, from its bytes: cell 0 holds one reference to cell 1, turned by the angle with cos 3/5 and sin 4/5 as floats, and cell 1 holds a text at (20, 10) and a
-- node with points at (20, 10) and (30, 5). It is slanted and accepted, and its plan lists the text at (4, 22); the exact position of the text's path is another, since 3/5 and 4/5 are
-- no floats, and paper 14 gives that it is within 1/64.
-- Assumes nothing.
use mathlib.Core.Path.{◌≡◌, refl, subst}
use mathlib.Core.Bool.{false}
use mathlib.Core.List.{List, [], ◌∷◌}
use Prim.Native.Nat.{ℕ}
use lib.Dec.{lit≤}
use lib.Dec.{T as Yes}
use lib.Ieee.{Float, binary64, round}
use lib.Ieee.Fits.{eq→eqb}
use lib.ListN.{replicate}
use Rattle.fields.specs.Field.{record_bytes}
use Rattle.geometry.specs.declared.placement.DVec2.{DVec2}
use Rattle.geometry.specs.Bbox.{boxed}
use Rattle.records.specs.declared.PreparedSource.TheVariants.{Cell}
use Rattle.records.specs.declared.PreparedReference.{PreparedReference}
use Rattle.abstract_sheet.specs.Sheet.{sheet_of}
use Rattle.exact.specs.Integer.{integer, ◌≐◌}
use Rattle.plan_rules.specs.Limits.{max_scene_objects}
use Rattle.plan_rules.specs.Event.{Event, text, point, detail_cell, text_at, node_at, reference_at, member, point_at}
use Rattle.plan_rules.specs.World.{Query}
use Rattle.plan_rules.specs.Outcome.{Outcome, outcome_of}
use Rattle.plan_rules.specs.Samples.{whole, spot, page, text_at_spot, viewing}
use Rattle.plan_rules.proofs.Cases.Opened.{opened}
use Rattle.plan_rules.proofs.Cases.OpenedSheet.{opened_sheet}
use Rattle.paths.specs.Path.{Path, a_text, to_text, to_reference, through_member_lem, at_text, step}
use Rattle.cover.specs.Trace.{Trace, All, none_left, and_then}
use Rattle.cover.specs.Demand3.{events_of, IsTape}
use Rattle.cover.proofs.Examples.Boxes.{without_totals}
use Rattle.cover.proofs.Examples.Fields.{at, text_fields, node_fields, magnified_fields, cell_fields}
use Rattle.fractions.specs.Fraction.{◌⊟◌, value_of}
use Rattle.fractions.specs.Placement.{FractionVector, identity, move, vector_of}
use Rattle.slanted.specs.Sheet.{SlantedSheet}
use Rattle.slanted.specs.Path.{Item, member_at, LeadsTo}
use Rattle.slanted.specs.Slanted.{NearPosition, Places, places_text, text_position_lem, PlacesItsPath, PlacesWithin, most_references, sixty_fourth}
use Rattle.slanted.proofs.Rules.{one_placement}
use Rattle.slanted.proofs.Call.{slanted}
use Rattle.slanted.proofs.Decided.{is_slanted, slanted_sheet}

-- ---- the sheet

abbrev cosine : Float
cosine = round binary64 false 3 5

abbrev sine : Float
sine = round binary64 false 4 5

unfoldable pub turned : List ℕ
turned =
    record_bytes
    (text_fields (spot 20 10)
    (node_fields (spot 20 10) (spot 30 5)
    (magnified_fields 1 1 false (Cell 1) (spot 0 0) (spot 0 0) (spot 0 0) (whole 1) (at cosine sine) (page 50 50)
    (cell_fields 0 (page 100 100) [] [] [] (0 ∷ [])
    (cell_fields 0 (page 50 50) [] (0 ∷ []) (0 ∷ []) [] [])))))

pub turned_slanted : SlantedSheet (sheet_of turned)
turned_slanted = slanted_sheet turned passes
  where
    passes : Yes (is_slanted turned)
    passes = unfold turned opened opened_sheet in tt

-- ---- the call: view 0, 0, 100, 100, zoom 1, depth 3

abbrev query : Query
query = viewing (page 100 100) (whole 1) 3 max_scene_objects

-- two cells at depth 3 name 6 counts and 10 marks
abbrev out : List ℕ
out = replicate 200 7

abbrev call : Outcome
call = outcome_of turned query out (replicate 6 8) (replicate 10 9)

pub turned_accepted : call.number ≡ 0
unfolding turned opened opened_sheet
turned_accepted = refl

abbrev path : Path
path = reference_at 0 ∷ member 0 0 ∷ text_at 0 ∷ []

-- the newest event first, without the totals
pub turned_plan : without_totals (events_of turned query)
    ≡ (reference_at 0 ∷ member 0 0 ∷ node_at 0 ∷ point_at 1 ∷ [], point 1 2 (spot 14 27)) ∷ (reference_at 0 ∷ member 0 0 ∷ node_at 0 ∷ point_at 0 ∷ [], point 1 2 (spot 4 22))
    ∷ (path, text 0 (spot 4 22)) ∷ (reference_at 0 ∷ member 0 0 ∷ [], detail_cell) ∷ ([], detail_cell) ∷ []
unfolding turned opened opened_sheet
turned_plan = refl

pub turned_places : (trace : Trace) × IsTape turned query call trace out × PlacesWithin most_references (λ n. 1) sixty_fourth (sheet_of turned) query trace
turned_places = slanted turned query out (replicate 6 8) (replicate 10 9) turned_slanted turned_accepted

-- ---- the text's record

-- the reference, as the bytes say it
abbrev reference : PreparedReference
reference = record {
  grid = record {
    columns = 1;
    rows = 1;
    x_reflection = false;
    origin = spot 0 0;
    spacing_x = spot 0 0;
    spacing_y = spot 0 0;
    magnification = whole 1;
    cos = cosine;
    sin = sine;
  };
  source = Cell 1;
  source_bbox = boxed (page 50 50);
}

abbrev item : Item
item = a_text 0 (text_at_spot 20 10) (member_at identity reference 0 0)

pub turned_leads : LeadsTo (sheet_of turned) 0 path item
unfolding turned opened opened_sheet
turned_leads = step (to_reference refl (lit≤ tt)) (step (through_member_lem refl (lit≤ tt) (lit≤ tt)) (step (to_text refl (lit≤ tt)) (at_text refl)))

-- where it is exactly
abbrev exactly : FractionVector
exactly = move (member_at identity reference 0 0) (vector_of (spot 20 10))

-- the record's coordinates are not these
pub turned_is_inexact : ((value_of (whole 4) ⊟ exactly.x).num ≐ integer 0 → ⊥) × ((value_of (whole 22) ⊟ exactly.y).num ≐ integer 0 → ⊥)
unfolding opened
turned_is_inexact = (λ e. eq→eqb e, λ e. eq→eqb e)

-- ---- and by paper 14 it is near them

places : PlacesWithin most_references (λ n. 1) sixty_fourth (sheet_of turned) query (events_of turned query)
places = subst (PlacesWithin most_references (λ n. 1) sixty_fourth (sheet_of turned) query) turned_places.1.ran turned_places.2

all_later : {F : Path × Event → Type 0} (l : Trace) → All F l → All F (without_totals l)
all_later [] none_left = none_left
all_later (x ∷ l) (and_then h k) = k

third : {F : Path × Event → Type 0} {a b c : Path × Event} {l : Trace} → All F (a ∷ b ∷ c ∷ l) → F c
third (and_then h (and_then k (and_then m n))) = m

text_placed : PlacesItsPath 1 sixty_fourth (sheet_of turned) query path (text 0 (spot 4 22))
text_placed = third (subst (All _) turned_plan (all_later (events_of turned query) places)) text_position_lem (lit≤ tt)

its_position : {v : DVec2} → Places 1 sixty_fourth item (text 0 v) → NearPosition 1 sixty_fourth v exactly
its_position (places_text n) = n

pub turned_is_near : NearPosition 1 sixty_fourth (spot 4 22) exactly
turned_is_near =
    let p = text_placed in
    its_position (subst (λ (h : Item). Places 1 sixty_fourth h (text 0 (spot 4 22))) (one_placement (sheet_of turned) 0 path p.0 item p.1 turned_leads) p.2)
