-- `fields::u64_within` meets its contract. Assumes nothing.
use Rattle.fields.proofs.Halves.{read_halves}
use Rattle.fields.proofs.u64_within.Goals as goal

pub returns : goal.returns
returns c =
    let a = c.args in
    read_halves 4 a.s.now a.at c.u32_within-low.ensures c.u32_within-high.ensures
