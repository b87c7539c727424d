-- Calls at depths above document 01's 32, computed from bytes: document 02, paper 13.
-- Assumes nothing.
use mathlib.Core.Path.{◌≡◌, refl}
use Prim.Native.Nat.{ℕ}
use lib.ListN.{replicate}
use Rattle.abstract_sheet.proofs.Examples.{worked_text, worked_cell, worked_sheet}
use Rattle.plan_rules.specs.Limits.{max_scene_objects}
use Rattle.plan_rules.specs.World.{Query}
use Rattle.plan_rules.specs.Outcome.{refused, outcome_up_to, outcome_of}
use Rattle.plan_rules.specs.Deeper.{former_max_depth}
use Rattle.plan_rules.proofs.Cases.Opened.{opened}
use Rattle.plan_rules.proofs.Cases.OpenedSheet.{opened_sheet}
use Rattle.plan_rules.specs.Samples.{whole, page, viewing}

-- a view of 100 by 100 at one pixel a unit
abbrev to : ℕ → Query
to depth = viewing (page 100 100) (whole 1) depth max_scene_objects

-- the worked example has 1 cell, so 33 counts and 35 marks are named, and 48 and 50
pub answered_now : ((outcome_of worked_sheet (to 33) (replicate 88 7) (replicate 33 8) (replicate 35 9)).number ≡ 0)
    × ((outcome_of worked_sheet (to 48) (replicate 88 7) (replicate 48 8) (replicate 50 9)).number ≡ 0)
    × ((outcome_of worked_sheet (to 48) (replicate 88 7) (replicate 47 8) (replicate 50 9)).number ≡ 11)
    × ((outcome_of worked_sheet (to 48) (replicate 88 7) (replicate 48 8) (replicate 49 9)).number ≡ 11)
unfolding worked_text worked_cell worked_sheet opened opened_sheet
answered_now = (refl, refl, refl, refl)

-- what the former question said of the first of them, and of depth 32
pub formerly_refused : outcome_up_to former_max_depth worked_sheet (to 33) (replicate 88 7) (replicate 33 8) (replicate 35 9) ≡ refused 10 0 (replicate 88 7) (replicate 33 8) (replicate 35 9)
unfolding worked_text worked_cell worked_sheet opened opened_sheet
formerly_refused = refl

pub formerly_answered : (outcome_up_to former_max_depth worked_sheet (to 32) (replicate 88 7) (replicate 32 8) (replicate 34 9)).number ≡ 0
unfolding worked_text worked_cell worked_sheet opened opened_sheet
formerly_answered = refl
