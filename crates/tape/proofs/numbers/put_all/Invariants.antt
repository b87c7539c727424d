-- What is left to write from here makes the whole.
use Rattle.std.proofs.Common.{◌≡◌, ◌+◌, ◌*◌, drop}
use Rattle.tape.proofs.Left.{left}
use Rattle.tape.proofs.numbers.put_all.Given as goal

abbrev pub invariant-loop-number : goal.invariant-loop-number
invariant-loop-number g l = record {
  place : l.next ≡ l.at + 8 * l.number-index;
  whole : left g.T.Number.field l.out l.next (drop l.number-index l.numbers) ≡ left g.T.Number.field l.initial.out l.at l.numbers;
}
