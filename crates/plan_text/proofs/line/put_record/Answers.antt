-- `plan_text::line::put_record` meets its contract: the kind chooses the line. Assumes nothing.
use borrow.Author.Tests.{ne_eqb}
use Rattle.plan_text.specs.Text.{line_of}
use Rattle.plan_text.proofs.Pieces.{nothing}
use Rattle.plan_text.proofs.line.put_record.Goals as goal

pub returns-in-11 : goal.returns-in-11
unfolding line_of
returns-in-11 c = rw (← c.u16_at.ensures, c.in-11.is) c.put_batch.ensures

pub returns-in-12 : goal.returns-in-12
unfolding line_of
returns-in-12 c = rw (← c.u16_at.ensures, c.in-12.is) c.put_text.ensures

pub returns-in-13 : goal.returns-in-13
unfolding line_of
returns-in-13 c = rw (← c.u16_at.ensures, c.in-13.is) c.put_point.ensures

pub returns-in-14 : goal.returns-in-14
unfolding line_of
returns-in-14 c = rw (← c.u16_at.ensures, c.in-14.is) c.put_proxy.ensures

pub returns-in-15 : goal.returns-in-15
unfolding line_of
returns-in-15 c = rw (← c.u16_at.ensures, c.in-15.is) c.put_totals.ensures

pub returns-in_default : goal.returns-in_default
unfolding line_of
returns-in_default c =
    let r = c.in_default.in_default-own.rest in
    simp (← c.u16_at.ensures, ne_eqb _ _ r.0.0.0.0.1, ne_eqb _ _ r.0.0.0.1, ne_eqb _ _ r.0.0.1, ne_eqb _ _ r.0.1, ne_eqb _ _ r.1) (nothing _ _)
