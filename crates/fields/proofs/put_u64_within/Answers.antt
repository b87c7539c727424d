-- `fields::put_u64_within` meets its contract. Assumes nothing.
use Rattle.fields.proofs.Halves.{write_halves}
use Rattle.fields.proofs.put_u64_within.Goals as goal

pub returns : goal.returns
returns c =
    let a = c.args in
    write_halves 4 a.n a.d.now a.at c.put_u32_within.ensures c.put_u32_within-2.ensures
