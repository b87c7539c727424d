-- `plan_text::line::put_totals` meets its contract: its pieces are written one after the other. Assumes nothing.
use Rattle.std.proofs.Common.{arith}
use Rattle.plan_text.proofs.Pieces.{◌⨾◌, roomy}
use Rattle.plan_text.proofs.line.put_totals.Goals as goal

pub returns : goal.returns
returns c =
    roomy (omega arith)
    (c.word.ensures
    ⨾ c.fields.ensures
    ⨾ c.word-2.ensures)
