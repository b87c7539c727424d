-- The text of an answer: the lines of so many bytes of the tape ("All it prints"), or one line.
-- Definitions only; rests on plan_text's lines and the rules' outcome.
use Rattle.std.specs.Prelude.{cond, List, [], ℕ, take, eqb, Result, Ok, Err}
use Rattle.plan_text.specs.Text.{refused_line, lines_from}
use Rattle.plan_rules.specs.Outcome.{Outcome}
use Rattle.plan_answer.specs.declared.no_plan.NoPlan.{NoPlan}
use Rattle.plan_answer.specs.NoPlan.{line_instead}

-- the text of a call's outcome: number 0 is a plan's
unfoldable pub outcome_text : Outcome → List ℕ
outcome_text c = cond (eqb c.number 0) (lines_from (take c.tape_length c.out) 0) (refused_line c.number c.offset)

-- how many bytes of the lent output it reads
unfoldable pub outcome_end : Outcome → ℕ
outcome_end c = cond (eqb c.number 0) c.tape_length 0

-- how many bytes of the tape an answer names
abbrev pub tape_end : Result ℕ NoPlan → ℕ
tape_end (Ok length) = length
tape_end (Err why) = 0

-- Places of a text: offsets of the tape, or 0 and 1, before and behind the one line. Where the text ends:
abbrev pub text_end : Result ℕ NoPlan → ℕ
text_end (Ok length) = length
text_end (Err why) = 1

-- one line, from a place on
unfoldable pub line_from : List ℕ → ℕ → List ℕ
line_from line at = cond (eqb at 0) line []

-- the text of an answer, from a place on
abbrev pub text_from : Result ℕ NoPlan → List ℕ → ℕ → List ℕ
text_from (Ok length) tape at = lines_from (take length tape) at
text_from (Err why) tape at = line_from (line_instead why) at
