-- The fields passed are written.
use Rattle.std.proofs.Common.{◌*◌}
use Rattle.plan_text.specs.Text.{each_field}
use Rattle.plan_text.specs.Written.{Puts}
use Rattle.plan_text.proofs.piece.Line.fields.Given as goal

abbrev pub invariant-loop-i : goal.invariant-loop-i
invariant-loop-i g l = Puts (g.P.Piece.room * l.i) l.initial.self (each_field g.P.Piece.piece l.i l.bytes l.from) l.self
