-- What an input is answered, and what stands in every lent place after it: the contracts equate a call to these definitions.
-- Definitions only; rests on plan_query's reading of the query, on opening a sheet and on the rules' outcome of a call.
use Rattle.std.specs.Prelude.{◌≡◌, List, ℕ, length, take, drop, Result, Ok, Err}
use Rattle.streams.specs.declared.input.ReadError.{ReadError}
use Rattle.plan_query.specs.declared.QueryRecord.{QueryRecord}
use Rattle.plan_query.specs.declared.QueryError.{QueryError}
use Rattle.plan_query.specs.Query.{read_query}
use Rattle.open_sheet.specs.Opening.{opening_of}
use Rattle.plan_rules.specs.OnTape.{asked}
use Rattle.plan_rules.specs.Outcome.{Outcome, outcome_of}
use Rattle.plan_answer.specs.declared.no_plan.NoPlan.{NoPlan}
use Rattle.plan_answer.specs.declared.lent.Lent.{Lent}
use Rattle.plan_answer.specs.NoPlan.{without_query, without_input, line_instead}
use Rattle.plan_answer.specs.Text.{outcome_text, outcome_end, tape_end, text_from}

-- The whole text, the end of the tape (0 without one), and the lent finder, hidden layers, tape, counts and marks.
-- The end is said for itself: bytes behind the last record add no line, so the text alone does not tell it.
pub record Reply : Type 0 where
  pub text : List ℕ
  pub end : ℕ
  pub finder : List ℕ
  pub hidden : List ℕ
  pub tape : List ℕ
  pub counts : List ℕ
  pub marks : List ℕ

-- what a call answered and left
abbrev pub reply : Result ℕ NoPlan → List ℕ → List ℕ → List ℕ → List ℕ → List ℕ → Reply
reply r f h o k m = record { text = text_from r o 0; end = tape_end r; finder = f; hidden = h; tape = o; counts = k; marks = m }

-- the lent places keep their lengths
abbrev pub KeepsLengths : Lent → Lent → Type 0
KeepsLengths before after =
    (length after.finder.now ≡ length before.finder.now) × (length after.hidden.now ≡ length before.hidden.now) × (length after.tape.now ≡ length before.tape.now)
    × (length after.counts.now ≡ length before.counts.now) × (length after.marks.now ≡ length before.marks.now)

-- What a call promises: its answer, and what it leaves in the lent places, which stay the same ones and as long, are the definition's of
-- what stood there before.
pub record Replies (definition : List ℕ → List ℕ → List ℕ → List ℕ → List ℕ → Reply) (r : Result ℕ NoPlan) (before after : Lent) : Type 0 where
  pub same_finder : after.finder.ghost_name ≡ before.finder.ghost_name
  pub same_hidden : after.hidden.ghost_name ≡ before.hidden.ghost_name
  pub same_tape : after.tape.ghost_name ≡ before.tape.ghost_name
  pub same_counts : after.counts.ghost_name ≡ before.counts.ghost_name
  pub same_marks : after.marks.ghost_name ≡ before.marks.ghost_name
  pub lengths : KeepsLengths before after
  pub left : reply r after.finder.now after.hidden.now after.tape.now after.counts.now after.marks.now
      ≡ definition before.finder.now before.hidden.now before.tape.now before.counts.now before.marks.now

abbrev pub reply_of_outcome : Outcome → List ℕ → List ℕ → Reply
reply_of_outcome c f h = record { text = outcome_text c; end = outcome_end c; finder = f; hidden = h; tape = c.out; counts = c.counts; marks = c.marks }

-- "reads one query .. and then the sheet": the plan is the one without a finder; the lent finder is left as opening the sheet leaves it
unfoldable pub reply_of_query : List ℕ → QueryRecord → List ℕ → List ℕ → List ℕ → List ℕ → List ℕ → Reply
reply_of_query s q f h o k m =
    reply_of_outcome (outcome_of (drop q.sheet s) (asked q.options (take q.hidden h)) o k m) (opening_of (drop q.sheet s) f).finder h

-- a line, and nothing touched but the hidden layers
abbrev pub reply_line : NoPlan → List ℕ → List ℕ → List ℕ → List ℕ → List ℕ → Reply
reply_line why f h o k m = record { text = line_instead why; end = 0; finder = f; hidden = h; tape = o; counts = k; marks = m }

-- by what the input begins with, and the hidden layers that were read
abbrev pub reply_of_first : List ℕ → Result QueryRecord QueryError × List ℕ → List ℕ → List ℕ → List ℕ → List ℕ → Reply
reply_of_first s (Ok q, h) f o k m = reply_of_query s q f h o k m
reply_of_first s (Err error, h) f o k m = reply_line (without_query error) f h o k m

unfoldable pub reply_of : List ℕ → List ℕ → List ℕ → List ℕ → List ℕ → List ℕ → Reply
reply_of s f h o k m = reply_of_first s (read_query s h) f o k m

-- By how far an input could be read into a buffer: what is answered from is what was read to its end, and nothing else.
-- "Input beyond the program's buffers .. prints `too long` before all else"
abbrev pub reply_of_input : List ℕ → Result ℕ ReadError → List ℕ → List ℕ → List ℕ → List ℕ → List ℕ → Reply
reply_of_input b (Ok size) f h o k m = reply_of (take size b) f h o k m
reply_of_input b (Err error) f h o k m = reply_line (without_input error) f h o k m
