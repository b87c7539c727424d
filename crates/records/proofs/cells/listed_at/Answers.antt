-- `records::cells::listed_at` meets its contract. Assumes nothing.
use Prim.Native.Nat.{ℕ, ◌+◌}
use mathlib.Core.Path.{ap, ◌∙◌}
use Rattle.records.specs.Records.{cell_number_at}
use Rattle.records.proofs.Body.{uint_in}
use Rattle.records.proofs.cells.listed_at.Goals as goal

pub returns : goal.returns
unfolding cell_number_at
returns c =
    let a = c.args in
    let uint = uint_in _ a.s.now a.at c.from.ensures in
    c.u32_at.ensures ∙ uint _ 4 ∙ ap (λ (start : ℕ). cell_number_at a.s.now a.at (start + a.i)) c.start_of.ensures.0
