-- `planner::plan_with_finder` meets its contract: the sheet's own check decides questions 1 to 7, `finder::belongs` question 13, and `plan_sound` the others.
-- Assumes nothing.
use mathlib.Core.Path.{sym, ◌∙◌}
use Rattle.check_sheet.proofs.Valid.{sound_valid, sound_counts}
use Rattle.check_sheet.proofs.Verdict.{checked_as}
use Rattle.planner.proofs.Refusals.{handed}
use Rattle.planner.proofs.Finders.{with_refused, with_foreign, own_seen}
use Rattle.planner.proofs.entry.plan_with_finder.Goals as goal

pub belongs-requires : goal.belongs-requires
belongs-requires c =
    let passed = sym (checked_as _ _ c.check_sheet.ensures) ∙ c.in_ok-kinds.was in
    record { valid = sound_valid _ _ passed; c_value = sound_counts _ _ passed }

pub returns-then-not-belongs : goal.returns-then-not-belongs
returns-then-not-belongs c =
    let passed = sym (checked_as _ _ c.check_sheet.ensures) ∙ c.in_ok-kinds.was in
    c.turn_away.ensures ∙ sym (with_foreign _ _ _ _ _ _ _ passed (sym c.belongs.ensures ∙ c.if-not-belongs.true))

pub returns-in_err-kinds : goal.returns-in_err-kinds
returns-in_err-kinds c =
    handed _ _ _ _ _ c.from_residual.ensures.1
    ∙ sym (with_refused _ _ _ _ _ _ _ (sym (checked_as _ _ c.check_sheet.ensures) ∙ c.in_err-kinds.was))

pub returns : goal.returns
returns c =
    let passed = sym (checked_as _ _ c.check_sheet.ensures) ∙ c.in_ok-kinds.was in
    c.plan_sound.ensures ∙ own_seen _ _ _ _ _ _ _ passed (sym c.belongs.ensures ∙ c.if-not-belongs.false)
