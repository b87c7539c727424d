-- The one line in place of a plan. Assumes nothing.
use Rattle.std.proofs.Common.{ap, arith}
use Rattle.plan_answer.specs.Text.{text_end}
use Rattle.plan_answer.proofs.Parts.{line_part}
use Rattle.plan_answer.proofs.part.put_part.Goals as goal

pub returns-in-Err : goal.returns-in-Err
returns-in-Err c =
    let is = c.in-Err.is in
    rw is (line_part c.in-Err.why _ c.put_line.ensures (omega arith) (omega (arith, ap text_end is)))
