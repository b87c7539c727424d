-- `plan_text::piece::Line::fields` meets its contract. Assumes nothing.
use Rattle.std.proofs.Common.{◌+◌, ◌≤◌, arith}
use Rattle.std.proofs.Math.Nat.{mul-le-mul_left}
use Rattle.plan_text.specs.Text.{each_field}
use Rattle.plan_text.proofs.Pieces.{roomy, nothing, field_written}
use Rattle.plan_text.proofs.piece.Line.fields.Goals as goal

pub loop-i-init : goal.loop-i-init
unfolding each_field
loop-i-init g c = nothing _ _

pub put-requires : goal.put-requires
put-requires g c =
    let h : c.loop-i.i + 1 ≤ c.args.count = omega arith in
    let room = g.P.Piece.room in
    omega (arith, mul-le-mul_left room h)

pub loop-i-preserved : goal.loop-i-preserved
loop-i-preserved g c =
    let room = g.P.Piece.room in
    roomy (omega arith)
    (field_written g.P.Piece.piece c.args.bytes.now room c.loop-i.i c.args.from c.loop-i.invariant c.u64_at.ensures c.put.ensures)
