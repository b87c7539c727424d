-- `records::parts::padded` meets its contract: the copy is the bytes, and the zeros after it are read as what lies past their end. Assumes nothing.
use mathlib.Core.Path.{sym, ap, ◌∙◌}
use mathlib.Core.List.{List, ◌++◌}
use Prim.Native.Nat.{ℕ}
use lib.ListN.{length, drop, replicate}
use lib.Seq.{take-length}
use Rattle.records.specs.Format.{reference, end_of}
use Rattle.records.proofs.Body.{uint_in, uint_padded}
use Rattle.records.proofs.parts.padded.Goals as goal

pub returns : goal.returns
returns c j k =
    let tail = c.from-tail.result.now in
    uint_padded _ tail (end_of reference)
    (ap (λ (l : List ℕ). l ++ drop (length tail) (replicate (end_of reference) 0)) (c.copy_from_slice.ensures.after ∙ sym (take-length tail))) j k
    ∙ uint_in _ c.args.s.now c.args.at c.from-tail.ensures j k
