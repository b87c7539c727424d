-- The writer got the parts of the text before the place at hand, where all was written.
use Rattle.std.proofs.Common.{◌≡◌, ◌-◌, ◌++◌, ℕ, List}
use Rattle.std.specs.Prelude.{OnOk}
use Rattle.std.specs.Io.KnownBytes.{Appends}
use Rattle.streams.specs.Printing.{Remembers}
use Rattle.plan_answer.specs.Text.{text_from}
use Rattle.plan_answer.proofs.print.print_answer.Given as goal

abbrev pub invariant-loop-at : goal.invariant-loop-at
invariant-loop-at g l = record {
  remembered : Remembers l.fn.to l.to l.to.so_far;
  bytes : OnOk l.to.so_far ((bytes : List ℕ) × (bytes ++ text_from l.answer l.tape l.at ≡ text_from l.answer l.tape 0) × Appends (g.W.Write.contents l.fn.to.out) (g.W.Write.contents l.to.out) bytes);
}

abbrev pub decreases-loop-at : goal.decreases-loop-at
decreases-loop-at g l = l.end - l.at
