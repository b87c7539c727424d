-- `plan_answer::input::answer_input` meets its contract: an input that could not be read to its end is answered by a line.
-- Assumes nothing.
use Rattle.std.proofs.Common.{refl}
use Rattle.std.proofs.lemmas.Result.{err_from_is_err_and}
use Rattle.plan_answer.proofs.Replies.{input_reply}
use Rattle.plan_answer.proofs.input.answer_input.Goals as goal

pub returns-in_err-size-clause-replies : goal.returns-in_err-size-clause-replies
returns-in_err-size-clause-replies c =
    let t = c.args.lent.now in
    let p = err_from_is_err_and c.from_residual.result c.from_residual.ensures.1 in
    let left = input_reply c.in_err-size.field-0.0 c.args.buffer.now t.finder.now t.hidden.now t.tape.now t.counts.now t.marks.now in
    rw (p.1, p.2, c.in_err-size.was)
    (record { same_finder = refl; same_hidden = refl; same_tape = refl; same_counts = refl; same_marks = refl; lengths = (refl, refl, refl, refl, refl); left = left })
