-- `plan_text::piece::Line::word` meets its contract. Assumes nothing.
use Rattle.std.proofs.Common.{refl, length, ◌+◌, ◌-◌, ◌≡◌, arith}
use Rattle.plan_text.proofs.Pieces.{puts, placed}
use Rattle.plan_text.proofs.piece.Line.word.Goals as goal

pub returns : goal.returns
returns c =
    let size : c.args.self.now.end + length c.args.word.now - c.args.self.now.end ≡ length c.args.word.now = omega arith in
    puts refl (rw size (placed c.copy_from_slice.ensures.after refl c.requires))
