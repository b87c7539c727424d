-- What a writer leaves in the lent text: the contracts of this crate cite these records.
-- Definitions only. Assumes nothing.
use Rattle.std.specs.Prelude.{◌≡◌, ◌⊎◌, List, ◌++◌, ℕ, ◌+◌, ◌≤◌, ◌<◌, length, take, drop}
use Rattle.std.proofs.lemmas.List.Edits.{sets}
use Rattle.plan_text.specs.declared.lines.Lines.{Lines}
use Rattle.plan_text.specs.declared.piece.Line.{Line}
use Rattle.plan_text.specs.Text.{lines_from}

-- Bytes are written into d from `at` on, which leaves e and ends at `end`; there are at most `most` of them.
-- All other bytes are as lent.
pub record Written (most : ℕ) (d : List ℕ) (at : ℕ) (bytes e : List ℕ) (end : ℕ) : Type 0 where
  pub left : e ≡ sets d at bytes
  pub ends : end ≡ at + length bytes
  pub within : end ≤ at + most

-- A line goes on by these bytes, at most `most` of them, in the text that it was lent.
pub record Puts (most : ℕ) (before : Line) (bytes : List ℕ) (after : Line) : Type 0 where
  pub same_text : after.text.ghost_name ≡ before.text.ghost_name
  pub same_length : length after.text.now ≡ length before.text.now
  pub written : Written most before.text.now before.end bytes after.text.now after.end

-- no line is longer
abbrev pub line_room : ℕ
line_room = 160

-- The lines of a tape from an offset on are put at the start of d, which leaves e: up to the tape's end, or until a line might not fit.
-- What is put and what is left to put are the lines asked for; past what is put, all is as lent.
pub record PutLines (s : List ℕ) (from : ℕ) (d e : List ℕ) (r : Lines) : Type 0 where
  pub all : take r.end e ++ lines_from s r.next ≡ lines_from s from
  pub rest : drop r.end e ≡ drop r.end d
  pub within : r.end ≤ length d
  pub stops : (length s ≤ r.next) ⊎ (length d < r.end + line_room)
  pub goes : from < length s → line_room ≤ length d → from < r.next
