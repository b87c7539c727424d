-- The lines of a tape, record by record.
-- Assumes nothing.
use mathlib.Core.Path.{◌≡◌, sym, ap, ◌∙◌}
use mathlib.Core.List.{List, ◌++◌, append_assoc}
use Prim.Native.Nat.{ℕ, ◌+◌, ◌-◌, ◌≤◌, ◌<◌}
use native.Mathlib.Omega.{arith}
use lib.ListN.{length, take, drop, length-append, length-drop}
use lib.Seq.{sets-eq, take_all, take_at, drop_at, drop-drop, length-take-le}
use borrow.Author.Tests.{lt-ltb, le-ltb}
use Rattle.walk.specs.Offsets.{length_at}
use Rattle.walk.proofs.Offsets.{offsets_end, offsets_more, offsets_bad, by_order}
use Rattle.plan_text.specs.Text.{line_of, next_record, lines_at, lines_from}
use Rattle.plan_text.specs.Written.{Written, line_room}

-- the part of a tape from a record on
pub from_here : (s : List ℕ) (at : ℕ) → take (length s - at) (drop at s) ≡ drop at s
from_here s at = take_all (length s - at) (drop at s) (omega (arith, length-drop at s))

module _ (s : List ℕ) where
  -- the line of the record at hand, and then those of the records behind it
  lines_more : (at : ℕ) → at < length s → lines_from s at ≡ line_of (drop at s) ++ lines_from s (next_record s at)
  unfolding lines_from lines_at next_record
  lines_more at h =
      by_order 6 (length_at s at)
      (λ k. rw (le-ltb _ _ k, offsets_more s at h k))
      (λ k. rw (lt-ltb _ _ k, offsets_bad s at h k, offsets_end s (length s) (omega arith)))

  pub next_further : (at : ℕ) → at < length s → at < next_record s at
  unfolding next_record
  next_further at h =
      by_order 6 (length_at s at)
      (λ k. rw (le-ltb _ _ k) (omega arith))
      (λ k. rw (lt-ltb _ _ k) h)

-- A loop's turn: a line is written behind what was put. `d` is the text as lent, `e` before the turn, `e'` after it.
module _ (s d e e' : List ℕ) (next end end' : ℕ) (written : Written line_room e end (line_of (drop next s)) e' end') (room : end + line_room ≤ length e) where
  abbrev line : List ℕ
  line = line_of (drop next s)

  split : e' ≡ (take end e ++ line) ++ drop (end + length line) e
  split = written.left ∙ sets-eq line e end (omega (arith, written.ends, written.within))

  put_length : length (take end e ++ line) ≡ end'
  put_length = length-append (take end e) line ∙ omega (arith, length-take-le end e (omega arith), written.ends)

  pub put_so_far : {whole : List ℕ} → next < length s → take end e ++ lines_from s next ≡ whole → take end' e' ++ lines_from s (next_record s next) ≡ whole
  put_so_far h all =
      ap (λ (l : List ℕ). l ++ lines_from s (next_record s next)) (ap (take end') split ∙ take_at (take end e ++ line) (drop (end + length line) e) end' put_length)
      ∙ append_assoc (take end e) line (lines_from s (next_record s next))
      ∙ ap (λ (l : List ℕ). take end e ++ l) (sym (lines_more s next h))
      ∙ all

  pub rest_as_lent : drop end e ≡ drop end d → drop end' e' ≡ drop end' d
  rest_as_lent same =
      ap (drop end') split
      ∙ drop_at (take end e ++ line) (drop (end + length line) e) end' put_length
      ∙ sym (drop-drop (length line) end e)
      ∙ ap (drop (length line)) same
      ∙ drop-drop (length line) end d
      ∙ ap (λ (n : ℕ). drop n d) (sym written.ends)
