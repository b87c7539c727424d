-- Whole calls, computed from bytes: document 01's worked example, an empty sheet, and a refusal of each number from 8 to 12.
-- Assumes nothing.
use mathlib.Core.Path.{◌≡◌, refl}
use mathlib.Core.List.{List, [], ◌∷◌, ◌++◌}
use Prim.Native.Nat.{ℕ}
use lib.ListN.{replicate}
use lib.Ieee.{neg}
use Rattle.geometry.specs.Bbox.{bbox}
use Rattle.abstract_sheet.specs.Sheet.{sheet_of}
use Rattle.abstract_sheet.proofs.Examples.{worked_text, worked_cell, worked_sheet}
use Rattle.std.specs.Prelude.{Ok, Err}
use Rattle.plan_rules.specs.declared.refusal.PlanError.TheVariants.{NoRoom}
use Rattle.plan_rules.specs.Limits.{max_scene_objects}
use Rattle.plan_rules.specs.World.{Query, World}
use Rattle.plan_rules.specs.Tape.{no_tag, on_tape}
use Rattle.plan_rules.specs.Outcome.{Outcome, outcome, refused, fresh_plan, outcome_of}
use Rattle.plan_rules.proofs.Cases.Opened.{opened}
use Rattle.plan_rules.proofs.Cases.OpenedSheet.{opened_sheet}
use Rattle.plan_rules.specs.Samples.{whole, page, viewing}

-- lent: output of so many bytes of 7, 4 counts of 8, 5 marks of 9
abbrev call : List ℕ → Query → ℕ → Outcome
call sheet q room = outcome_of sheet q (replicate room 7) (replicate 4 8) (replicate 5 9)

-- "view 0, 0, 100, 100, zoom 1, depth 1"
abbrev worked_query : Query
worked_query = viewing (page 100 100) (whole 1) 1 max_scene_objects

-- "text 0 4024000000000000 4034000000000000"
abbrev text_bytes : List ℕ
text_bytes = 26 ∷ 0 ∷ 0 ∷ 0 ∷ 12 ∷ 0 ∷ 0 ∷ 0 ∷ 0 ∷ 0 ∷ 0 ∷ 0 ∷ 0 ∷ 0 ∷ 0 ∷ 0 ∷ 0x24 ∷ 0x40 ∷ 0 ∷ 0 ∷ 0 ∷ 0 ∷ 0 ∷ 0 ∷ 0x34 ∷ 0x40 ∷ []

-- "totals 1 1 0 0 0 0", and document 02's seventh count, "0 in the worked example"
abbrev totals_bytes : ℕ → ℕ → List ℕ
totals_bytes cells objects = (62 ∷ 0 ∷ 0 ∷ 0 ∷ 15 ∷ 0 ∷ cells ∷ 0 ∷ 0 ∷ 0 ∷ 0 ∷ 0 ∷ 0 ∷ 0 ∷ objects ∷ 0 ∷ 0 ∷ 0 ∷ 0 ∷ 0 ∷ 0 ∷ 0 ∷ []) ++ replicate 40 0

-- one cell at depth 1: 1 count and 3 marks are named, and left zero
pub worked : call worked_sheet worked_query 90 ≡ outcome (Ok 88) (text_bytes ++ totals_bytes 1 1 ++ (7 ∷ 7 ∷ [])) (0 ∷ 8 ∷ 8 ∷ 8 ∷ []) (0 ∷ 0 ∷ 0 ∷ 9 ∷ 9 ∷ [])
unfolding worked_text worked_cell worked_sheet opened opened_sheet
worked = refl

-- "An empty sheet gives totals only."
pub empty_sheet : call [] worked_query 63 ≡ outcome (Ok 62) (totals_bytes 0 0 ++ (7 ∷ [])) (replicate 4 8) (replicate 5 9)
unfolding opened opened_sheet
empty_sheet = refl

-- ---- refusals

-- "Number 12 zeroes the whole output. It and an accepted plan leave the named scratch places zero and the rest as lent"
pub no_room : call worked_sheet worked_query 87 ≡ outcome (Err (NoRoom 88)) (replicate 87 0) (0 ∷ 8 ∷ 8 ∷ 8 ∷ []) (0 ∷ 0 ∷ 0 ∷ 9 ∷ 9 ∷ [])
unfolding worked_text worked_cell worked_sheet opened opened_sheet
no_room = refl

-- just enough
pub exact_room : (call worked_sheet worked_query 88).number ≡ 0
unfolding worked_text worked_cell worked_sheet opened opened_sheet
exact_room = refl

-- "Numbers 1 to 11 touch no memory."
abbrev untouched : ℕ → ℕ → Outcome
untouched number offset = refused number offset (replicate 90 7) (replicate 4 8) (replicate 5 9)

-- a record of 5 bytes at the end: 2, with its offset, before any question about the query
pub broken_record : call (worked_sheet ++ (6 ∷ 0 ∷ 0 ∷ 0 ∷ 1 ∷ [])) (viewing (page 100 100) (whole 0) 49 max_scene_objects) 90 ≡ untouched 2 86
unfolding worked_text worked_cell worked_sheet opened opened_sheet
broken_record = refl

-- each of these queries has the next fault too: the first no is given
pub view_turned : call worked_sheet (viewing (bbox (whole 1) (whole 0) (whole 0) (whole 1)) (whole 0) 49 max_scene_objects) 90 ≡ untouched 8 0
unfolding worked_text worked_cell worked_sheet opened opened_sheet
view_turned = refl

pub no_zoom : call worked_sheet (viewing (page 100 100) (whole 0) 49 max_scene_objects) 90 ≡ untouched 9 0
unfolding worked_text worked_cell worked_sheet opened opened_sheet
no_zoom = refl

pub negative_zoom : call worked_sheet (viewing (page 100 100) (neg (whole 1)) 49 max_scene_objects) 90 ≡ untouched 9 0
unfolding worked_text worked_cell worked_sheet opened opened_sheet
negative_zoom = refl

pub too_deep : call worked_sheet (viewing (page 100 100) (whole 1) 49 max_scene_objects) 90 ≡ untouched 10 0
unfolding worked_text worked_cell worked_sheet opened opened_sheet
too_deep = refl

-- depth 48 is asked for the scratch: 48 counts are wanted
pub depth_48 : call worked_sheet (viewing (page 100 100) (whole 1) 48 max_scene_objects) 90 ≡ untouched 11 0
unfolding worked_text worked_cell worked_sheet opened opened_sheet
depth_48 = refl

-- depth 4: 4 counts are there, 6 marks are not
pub few_marks : call worked_sheet (viewing (page 100 100) (whole 1) 4 max_scene_objects) 90 ≡ untouched 11 0
unfolding worked_text worked_cell worked_sheet opened opened_sheet
few_marks = refl

-- depth 3: 3 counts and 5 marks are just enough
pub enough_scratch : (call worked_sheet (viewing (page 100 100) (whole 1) 3 max_scene_objects) 90).number ≡ 0
unfolding worked_text worked_cell worked_sheet opened opened_sheet
enough_scratch = refl

-- "Depth 0 gives just one proxy if the root has a box that overlaps the view": 42 and 62 bytes, and no count is named
pub depth_0 : (call worked_sheet (viewing (page 100 100) (whole 1) 0 max_scene_objects) 104).tape_length ≡ 104
unfolding worked_text worked_cell worked_sheet opened opened_sheet
depth_0 = refl

-- ---- the run that writes, on the same calls

abbrev writing : ℕ → World (List ℕ)
writing room = fresh_plan no_tag on_tape (sheet_of worked_sheet) 1 worked_query tt (replicate room 7)

-- its tape's end is the tape's length, and its output the same
pub writes : ((writing 90).state.tape_end ≡ 88) × ((writing 90).out ≡ text_bytes ++ totals_bytes 1 1 ++ (7 ∷ 7 ∷ []))
unfolding worked_text worked_cell worked_sheet opened opened_sheet
writes = (refl, refl)

-- a record that does not fit whole is not written, and the end says so
pub writes_what_fits : ((writing 87).state.tape_end ≡ 88) × ((writing 87).out ≡ text_bytes ++ replicate 61 7)
unfolding worked_text worked_cell worked_sheet opened opened_sheet
writes_what_fits = (refl, refl)
