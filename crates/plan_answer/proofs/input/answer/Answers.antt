-- `plan_answer::input::answer` meets its contract: what the input begins with decides.
-- Assumes nothing.
use Rattle.std.proofs.Common.{refl, ◌∙◌}
use Rattle.std.proofs.lemmas.Result.{err_from_is_err_and}
use Rattle.plan_query.proofs.Reading.{query_within}
use Rattle.plan_answer.proofs.Replies.{first_reply, query_reply}
use Rattle.plan_answer.proofs.input.answer.Goals as goal

pub plan_query-requires-clause-sheet_within : goal.plan_query-requires-clause-sheet_within
plan_query-requires-clause-sheet_within c = (query_within c.args.input.now c.args.lent.now.hidden.now c.in_ok-query.ensures).0

pub plan_query-requires-clause-layers_within : goal.plan_query-requires-clause-layers_within
plan_query-requires-clause-layers_within c = (query_within c.args.input.now c.args.lent.now.hidden.now c.in_ok-query.ensures).1

pub returns-in_err-query-clause-replies : goal.returns-in_err-query-clause-replies
returns-in_err-query-clause-replies c =
    let s = c.args.input.now in
    let t = c.args.lent.now in
    let p = err_from_is_err_and c.from_residual.result c.from_residual.ensures.1 in
    let left = first_reply s t.finder.now t.hidden.now t.tape.now t.counts.now t.marks.now c.in_err-query.ensures (query_reply c.in_err-query.field-0.0 s t.finder.now t.hidden.now t.tape.now t.counts.now t.marks.now) in
    rw (p.1, p.2)
    (record { same_finder = refl; same_hidden = refl; same_tape = refl; same_counts = refl; same_marks = refl; lengths = (refl, c.read_query.auto.hidden, refl, refl, refl); left = left })

pub returns-clause-replies : goal.returns-clause-replies
returns-clause-replies c =
    let t = c.args.lent.now in
    let p = c.plan_query.ensures.replies in
    let l = p.lengths in
    record {
      same_finder = p.same_finder;
      same_hidden = p.same_hidden;
      same_tape = p.same_tape;
      same_counts = p.same_counts;
      same_marks = p.same_marks;
      lengths = (l.0, l.1 ∙ c.read_query.auto.hidden, l.2, l.3, l.4);
      left = first_reply c.args.input.now t.finder.now t.hidden.now t.tape.now t.counts.now t.marks.now c.in_ok-query.ensures p.left;
    }
