-- What is put and the lines left are the lines asked for.
use Rattle.std.proofs.Common.{◌≡◌, ◌++◌, ◌-◌, ◌≤◌, length, take, drop}
use Rattle.plan_text.specs.Text.{lines_from}
use Rattle.plan_text.proofs.lines.put_lines.Given as goal

abbrev pub invariant-loop-next : goal.invariant-loop-next
invariant-loop-next l = record {
  further : l.from ≤ l.next;
  within : l.end ≤ length l.initial.text;
  begun : l.next ≡ l.from → l.end ≡ 0;
  all : take l.end l.text ++ lines_from l.tape l.next ≡ lines_from l.tape l.from;
  rest : drop l.end l.text ≡ drop l.end l.initial.text;
}

abbrev pub decreases-loop-next : goal.decreases-loop-next
decreases-loop-next l = length l.tape - l.next
