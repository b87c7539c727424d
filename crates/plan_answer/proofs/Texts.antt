-- The text of an answer, part behind part.
-- Assumes nothing.
use Rattle.std.proofs.Common.{◌≡◌, sym, ap, ◌∙◌, ℕ, ◌≤◌, List, [], ◌++◌, take, length, append_assoc, append-nil, arith}
use lib.Seq.{length-take-le}
use Rattle.walk.proofs.Offsets.{offsets_end}
use Rattle.plan_text.specs.Text.{lines_at, lines_from}
use Rattle.plan_text.specs.declared.lines.Lines.{Lines}
use Rattle.std.specs.Prelude.{Result, Ok, Err}
use Rattle.plan_answer.specs.declared.no_plan.NoPlan.{NoPlan}
use Rattle.plan_answer.specs.Text.{tape_end, text_end, text_from, line_from}
use Rattle.plan_answer.specs.Part.{PutPart}

lines_end : (s : List ℕ) (at : ℕ) → length s ≤ at → lines_from s at ≡ []
unfolding lines_from lines_at
lines_end s at h = rw (offsets_end s at h)

line_end : (line : List ℕ) (at : ℕ) → 1 ≤ at → line_from line at ≡ []
unfolding line_from
line_end line at h = grind arith

-- behind its end a text has nothing
text_ends : (p : Result ℕ NoPlan) (tape : List ℕ) (at : ℕ) → tape_end p ≤ length tape → text_end p ≤ at → text_from p tape at ≡ []
text_ends (Ok n) tape at h e = lines_end (take n tape) at (omega (arith, length-take-le n tape h))
text_ends (Err why) tape at h e = line_end _ at e

-- so what was put up to there is the whole
pub whole_text : (p : Result ℕ NoPlan) (tape bytes : List ℕ) (at : ℕ) → tape_end p ≤ length tape → text_end p ≤ at → bytes ++ text_from p tape at ≡ text_from p tape 0 → bytes ≡ text_from p tape 0
whole_text p tape bytes at h e all = sym (append-nil bytes) ∙ sym (ap (λ (l : List ℕ). bytes ++ l) (text_ends p tape at h e)) ∙ all

-- and a part goes on where the parts before it ended
pub part_goes_on : {p : Result ℕ NoPlan} {tape d e : List ℕ} {from : ℕ} {r : Lines} (bytes : List ℕ) → PutPart p tape from d e r → bytes ++ text_from p tape from ≡ text_from p tape 0 → (bytes ++ take r.end e) ++ text_from p tape r.next ≡ text_from p tape 0
part_goes_on {p} {tape} {d} {e} {from} {r} bytes part all = append_assoc bytes (take r.end e) (text_from p tape r.next) ∙ ap (λ (l : List ℕ). bytes ++ l) part.all ∙ all
