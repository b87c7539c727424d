-- A part of the text of an answer, put into a lent buffer.
-- Definitions only. Assumes nothing.
use Rattle.std.specs.Prelude.{◌≡◌, List, ◌++◌, ℕ, ◌≤◌, ◌<◌, length, take, drop, Result}
use Rattle.plan_text.specs.declared.lines.Lines.{Lines}
use Rattle.plan_answer.specs.declared.no_plan.NoPlan.{NoPlan}
use Rattle.plan_answer.specs.Text.{text_from}

-- The text of an answer from a place on is put at the start of d, which leaves e, as far as there is room.
-- What is put and what is left to put are the text asked for; past what is put, all is as lent.
pub record PutPart (a : Result ℕ NoPlan) (tape : List ℕ) (from : ℕ) (d e : List ℕ) (r : Lines) : Type 0 where
  pub all : take r.end e ++ text_from a tape r.next ≡ text_from a tape from
  pub rest : drop r.end e ≡ drop r.end d
  pub within : r.end ≤ length e
  pub goes : from < r.next
