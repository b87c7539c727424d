-- A blank, and the digits behind it. Assumes nothing.
use Rattle.plan_text.specs.Text.{float, hexadecimal}
use Rattle.plan_text.proofs.piece.FloatPiece.put.Goals as goal

pub returns : goal.returns
unfolding float hexadecimal
returns c = c.digits.ensures
