-- `plan_text::line::put_proxy` meets its contract: its pieces are written one after the other. Assumes nothing.
use Rattle.std.proofs.Common.{arith}
use Rattle.plan_text.specs.Text.{label_text}
use Rattle.plan_text.proofs.Pieces.{◌⨾◌, roomy, said}
use Rattle.plan_text.proofs.line.put_proxy.Goals as goal

pub returns : goal.returns
returns c =
    roomy (omega arith)
    (c.word.ensures
    ⨾ said label_text c.u32_at.ensures c.label.ensures
    ⨾ c.fields.ensures
    ⨾ c.word-2.ensures)
