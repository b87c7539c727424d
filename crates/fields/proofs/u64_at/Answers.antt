-- `fields::u64_at` meets its contract. Assumes nothing.
use mathlib.Core.Path.{sym}
use Rattle.fields.proofs.Reading.{uint_at_past_end}
use Rattle.fields.proofs.Halves.{read_halves}
use Rattle.fields.proofs.u64_at.Goals as goal

pub returns-then-at-s : goal.returns-then-at-s
returns-then-at-s c = sym (uint_at_past_end 8 c.args.s.now c.args.at c.if-at-s.true)

pub returns : goal.returns
returns c =
    let a = c.args in
    read_halves 4 a.s.now a.at c.u32_at-low.ensures c.u32_at-high.ensures
