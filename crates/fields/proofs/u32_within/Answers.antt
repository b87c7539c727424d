-- `fields::u32_within` meets its contract. Assumes nothing.
use Rattle.fields.proofs.Halves.{read_halves}
use Rattle.fields.proofs.u32_within.Goals as goal

pub returns : goal.returns
returns c =
    let a = c.args in
    read_halves 2 a.s.now a.at c.u16_within-low.ensures c.u16_within-high.ensures
