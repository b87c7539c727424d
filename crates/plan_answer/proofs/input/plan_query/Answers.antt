-- `plan_answer::input::plan_query` meets its contract: what the planner's outcome tells is what is said.
-- Assumes nothing.
use Rattle.std.proofs.Common.{refl}
use Rattle.plan_text.proofs.TapeLines.{from_here}
use Rattle.plan_answer.proofs.Replies.{tape_reply, tape_within, refusal_reply, left_in}
use Rattle.plan_answer.proofs.input.plan_query.Goals as goal

pub returns-in-Ok-clause-replies : goal.returns-in-Ok-clause-replies
returns-in-Ok-clause-replies c =
    let a = c.args in
    let t = c.take-finder.result in
    let opened = rw (from_here a.input.now a.query.sheet) at c.plan_opened-planned.ensures.finder_left in
    let call = rw (from_here a.input.now a.query.sheet) at c.plan_opened-planned.ensures.outcome in
    left_in c.take-finder.ensures.value (c.plan_opened-planned.auto.finder, refl, c.plan_opened-planned.auto.tape, c.plan_opened-planned.auto.counts, c.plan_opened-planned.auto.marks) (tape_reply a.input.now a.query t.finder.now t.hidden.now t.tape.now t.counts.now t.marks.now _ opened call c.in-Ok.is)

pub returns-in-Ok-clause-within : goal.returns-in-Ok-clause-within
returns-in-Ok-clause-within c =
    let a = c.args in
    let t = c.take-finder.result in
    let opened = rw (from_here a.input.now a.query.sheet) at c.plan_opened-planned.ensures.finder_left in
    let call = rw (from_here a.input.now a.query.sheet) at c.plan_opened-planned.ensures.outcome in
    tape_within a.input.now a.query t.finder.now t.hidden.now t.tape.now t.counts.now t.marks.now _ opened call c.in-Ok.is

pub returns-in-Err-clause-replies : goal.returns-in-Err-clause-replies
returns-in-Err-clause-replies c =
    let a = c.args in
    let t = c.take-finder.result in
    let opened = rw (from_here a.input.now a.query.sheet) at c.plan_opened-planned.ensures.finder_left in
    let call = rw (from_here a.input.now a.query.sheet) at c.plan_opened-planned.ensures.outcome in
    left_in c.take-finder.ensures.value (c.plan_opened-planned.auto.finder, refl, c.plan_opened-planned.auto.tape, c.plan_opened-planned.auto.counts, c.plan_opened-planned.auto.marks) (refusal_reply a.input.now a.query t.finder.now t.hidden.now t.tape.now t.counts.now t.marks.now _ opened call c.in-Err.error c.in-Err.is c.number.ensures c.offset.ensures)
