-- `plan_text::lines::put_lines` meets its contract. Assumes nothing.
use Rattle.std.proofs.Common.{inl, inr, ◌+◌, ◌≤◌, ◌<◌, length, arith}
use Rattle.walk.proofs.Offsets.{by_order}
use Rattle.plan_text.specs.Written.{line_room}
use Rattle.plan_text.proofs.TapeLines.{from_here, next_further, put_so_far, rest_as_lent}
use Rattle.plan_text.proofs.lines.put_lines.Goals as goal

pub returns-then-text-end-lt-LINE_ROOM : goal.returns-then-text-end-lt-LINE_ROOM
returns-then-text-end-lt-LINE_ROOM c =
    let here = c.loop-next in
    record {
      all = here.invariant.all;
      rest = here.invariant.rest;
      within = here.invariant.within;
      stops = inr (omega arith);
      goes = λ h k. by_order (c.args.from + 1) here.next (λ m. omega arith) (λ m. absurd (omega (arith, here.invariant.begun (omega arith))));
    }

pub loop-next-smaller : goal.loop-next-smaller
loop-next-smaller c = omega (arith, c.next_record-next.ensures, next_further c.args.tape.now c.loop-next.next (omega arith))

pub loop-next-preserved : goal.loop-next-preserved
loop-next-preserved c =
    let a = c.args in
    let here = c.loop-next in
    let put = c.put_line-end in
    let inside : here.next < length a.tape.now = omega arith in
    let room : here.end + line_room ≤ length here.text = omega arith in
    let further = next_further a.tape.now here.next inside in
    let written = rw (from_here a.tape.now here.next) at put.ensures in
    record {
      further = omega (arith, c.next_record-next.ensures);
      within = omega (arith, written.within);
      begun = λ e. absurd (omega (arith, c.next_record-next.ensures));
      all = rw c.next_record-next.ensures (put_so_far a.tape.now a.text.now here.text put.new.text here.next here.end put.result written room inside here.invariant.all);
      rest = rest_as_lent a.tape.now a.text.now here.text put.new.text here.next here.end put.result written room here.invariant.rest;
    }

pub returns : goal.returns
returns c =
    let here = c.loop-next in
    record {
      all = here.invariant.all;
      rest = here.invariant.rest;
      within = here.invariant.within;
      stops = inl (omega arith);
      goes = λ h k. omega arith;
    }
