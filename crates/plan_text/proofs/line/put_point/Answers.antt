-- `plan_text::line::put_point` meets its contract: its pieces are written one after the other. Assumes nothing.
use Rattle.std.proofs.Common.{arith}
use Rattle.plan_text.specs.Text.{number}
use Rattle.plan_text.proofs.Pieces.{◌⨾◌, roomy, said}
use Rattle.plan_text.proofs.line.put_point.Goals as goal

pub returns : goal.returns
returns c =
    roomy (omega arith)
    (c.word.ensures
    ⨾ said number c.u16_at.ensures c.put.ensures
    ⨾ said number c.u16_at-2.ensures c.put-2.ensures
    ⨾ c.fields.ensures
    ⨾ c.word-2.ensures)
