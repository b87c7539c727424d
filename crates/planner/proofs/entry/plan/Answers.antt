-- `planner::plan` meets its contract: the sheet's own check decides questions 1 to 7, and `plan_sound` the others, without a finder.
-- Assumes nothing.
use mathlib.Core.Path.{sym, ◌∙◌}
use Rattle.check_sheet.proofs.Verdict.{checked_as}
use Rattle.plan_rules.proofs.OutcomeTheorem.{sheet_refused}
use Rattle.planner.proofs.Refusals.{handed}
use Rattle.planner.proofs.Finders.{none_seen}
use Rattle.planner.proofs.entry.plan.Goals as goal

pub returns-in_err-kinds : goal.returns-in_err-kinds
returns-in_err-kinds c =
    handed _ _ _ _ _ c.from_residual.ensures.1
    ∙ sym (sheet_refused _ _ _ _ _ _ _ (sym (checked_as _ _ c.check_sheet.ensures) ∙ c.in_err-kinds.was))

pub returns : goal.returns
returns c = c.plan_sound.ensures ∙ none_seen _ _ _ _ _ _ (sym (checked_as _ _ c.check_sheet.ensures) ∙ c.in_ok-kinds.was)
