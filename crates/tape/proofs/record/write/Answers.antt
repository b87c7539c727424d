-- `tape::record::write` meets its contract: the record is written if it fits, and the tape's end grows in any case.
-- Assumes nothing.
use mathlib.Core.Path.{sym, ap, ◌∙◌}
use Prim.Native.Nat.{ℕ, ◌+◌}
use lib.ListN.{length}
use lib.Dec.{leb}
use Rattle.plan_rules.specs.Event.{header, ◌⊞◌}
use Rattle.tape.proofs.Room.{written, left_alone}
use Rattle.tape.proofs.record.write.Goals as goal
use Rattle.tape.proofs.record.write.Goals.{then-has_room, else-has_room}

pub returns : goal.returns
returns g c =
    let a = c.args in
    let fs = header g.R.Record.KIND (g.R.Record.body a.listed.now) in
    let size = g.met.R.Record.sized a.listed.now in
    let tested = c.has_room.ensures ∙ ap (λ (n : ℕ). leb (a.at + n) (length a.out.now)) (c.SIZE.ensures ∙ sym size) in (
      elim c.if-has_room.branch [
        | then-has_room w ↦ w.out-is ∙ written fs a.out.now a.at tested w.if-has_room.true w.put.ensures
        | else-has_room w ↦ w.out-is ∙ left_alone fs a.out.now a.at tested w.if-has_room.false
      ],
      c.saturating_add.ensures ∙ ap (λ (n : ℕ). a.at ⊞ n) (c.SIZE-2.ensures ∙ sym size),
    )
