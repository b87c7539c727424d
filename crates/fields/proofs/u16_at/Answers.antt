-- `fields::u16_at` meets its contract. Assumes nothing.
use mathlib.Core.Path.{sym}
use Rattle.fields.proofs.Reading.{uint_at_past_end}
use Rattle.fields.proofs.Halves.{read_halves}
use Rattle.fields.proofs.u16_at.Goals as goal

pub returns-then-at-s : goal.returns-then-at-s
returns-then-at-s c = sym (uint_at_past_end 2 c.args.s.now c.args.at c.if-at-s.true)

pub returns : goal.returns
returns c =
    let a = c.args in
    read_halves 1 a.s.now a.at c.byte_at-low.ensures c.byte_at-high.ensures
