-- `records::cells::start_of` meets its contract: a count of 16 bits for each list before it. Assumes nothing.
use Prim.Native.Nat.{ℕ, ◌+◌}
use mathlib.Core.Path.{ap₂, ◌∙◌}
use native.Mathlib.Omega.{arith}
use Rattle.records.specs.Records.{texts_from, nodes_from, references_from}
use Rattle.records.proofs.Body.{uint_in}
use Rattle.records.proofs.cells.start_of.Goals as goal

pub returns-in-Texts : goal.returns-in-Texts
unfolding texts_from
returns-in-Texts c =
    let a = c.args in
    let uint = uint_in _ a.s.now a.at c.from-record.ensures in
    rw c.in-Texts.is (c.u16_at-texts.ensures ∙ uint _ 2, omega arith)

pub returns-in-Nodes : goal.returns-in-Nodes
unfolding texts_from nodes_from
returns-in-Nodes c =
    let a = c.args in
    let uint = uint_in _ a.s.now a.at c.from-record.ensures in
    rw c.in-Nodes.is (ap₂ (λ (m n : ℕ). m + n) (c.u16_at-texts.ensures ∙ uint _ 2) (c.u16_at.ensures ∙ uint _ 2), omega arith)

pub returns-in-References : goal.returns-in-References
unfolding texts_from nodes_from references_from
returns-in-References c =
    let a = c.args in
    let uint = uint_in _ a.s.now a.at c.from-record.ensures in
    rw c.in-References.is (
      ap₂ (λ (m n : ℕ). m + n) (ap₂ (λ (m n : ℕ). m + n) (c.u16_at-texts.ensures ∙ uint _ 2) (c.u16_at.ensures ∙ uint _ 2)) (c.u16_at-2.ensures ∙ uint _ 2),
      omega arith,
    )
