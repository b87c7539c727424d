-- `fields::put_u32` meets its contract. Assumes nothing.
use Rattle.fields.proofs.Halves.{write_halves, write_past_end}
use Rattle.fields.proofs.put_u32.Goals as goal

pub returns-then-at-d : goal.returns-then-at-d
returns-then-at-d c =
    let a = c.args in
    write_past_end 4 a.n a.d.now a.at c.if-at-d.true

pub returns : goal.returns
returns c =
    let a = c.args in
    write_halves 2 a.n a.d.now a.at c.put_u16.ensures c.put_u16-2.ensures
