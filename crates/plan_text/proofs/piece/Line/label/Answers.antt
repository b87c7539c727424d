-- `plan_text::piece::Line::label` meets its contract. Assumes nothing.
use Rattle.std.proofs.Common.{arith}
use borrow.Author.Tests.{eq-eqb, ne_eqb}
use Rattle.plan_text.specs.Text.{label_text}
use Rattle.plan_text.proofs.Pieces.{roomy}
use Rattle.plan_text.proofs.piece.Line.label.Goals as goal

pub returns-then-label-eq-NO_LABEL : goal.returns-then-label-eq-NO_LABEL
unfolding label_text
returns-then-label-eq-NO_LABEL c = rw (eq-eqb _ _ c.if-label-eq-NO_LABEL.true) (roomy (omega arith) c.word.ensures)

pub returns-else-label-eq-NO_LABEL : goal.returns-else-label-eq-NO_LABEL
unfolding label_text
returns-else-label-eq-NO_LABEL c = rw (ne_eqb _ _ c.if-label-eq-NO_LABEL.false) c.put.ensures
