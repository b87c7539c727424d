-- `plan_text::line::put_text` meets its contract: its pieces are written one after the other. Assumes nothing.
use Rattle.std.proofs.Common.{arith}
use Rattle.plan_text.specs.Text.{number}
use Rattle.plan_text.proofs.Pieces.{◌⨾◌, roomy, said}
use Rattle.plan_text.proofs.line.put_text.Goals as goal

pub returns : goal.returns
returns c =
    roomy (omega arith)
    (c.word.ensures
    ⨾ said number c.u32_at.ensures c.put.ensures
    ⨾ c.fields.ensures
    ⨾ c.word-2.ensures)
