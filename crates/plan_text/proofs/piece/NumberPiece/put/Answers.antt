-- A blank, and the digits behind it. Assumes nothing.
use Rattle.std.proofs.Common.{arith}
use Rattle.plan_text.specs.Text.{number, decimal}
use Rattle.plan_text.proofs.Pieces.{roomy}
use Rattle.plan_text.proofs.piece.NumberPiece.put.Goals as goal

pub returns : goal.returns
unfolding number decimal
returns c = let size = c.decimal_size.ensures in rw (← size.0) (roomy (omega arith) c.digits.ensures)
