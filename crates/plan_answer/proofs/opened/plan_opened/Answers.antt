-- `plan_answer::opened::plan_opened` meets its contract: in its own list an open sheet is planned as without one.
-- Assumes nothing.
use mathlib.Core.Path.{◌∙◌}
use Rattle.plan_answer.proofs.OwnFinder.{left_finder, opened_agrees}
use Rattle.plan_answer.proofs.opened.plan_opened.Goals as goal

pub returns-in-Ok : goal.returns-in-Ok
returns-in-Ok c =
    let is = c.in-Ok.is in
    record { outcome = c.plan_with_finder.ensures ∙ opened_agrees _ _ _ c.open_sheet.result c.open_sheet.ensures is _ _ _ _; finder_left = left_finder _ _ _ c.open_sheet.result c.open_sheet.ensures }

pub returns-in-Err : goal.returns-in-Err
returns-in-Err c =
    record { outcome = c.plan.ensures; finder_left = left_finder _ _ _ c.open_sheet.result c.open_sheet.ensures }
