-- `plan_text::number::put_digits` meets its contract. Assumes nothing.
use Rattle.std.proofs.Common.{◌∙◌, arith}
use Rattle.plan_text.proofs.Digits.{digit_written, digits_written}
use Rattle.plan_text.proofs.number.put_digits.Goals as goal

pub loop-i-preserved : goal.loop-i-preserved
loop-i-preserved c =
    let here = c.loop-i in
    digit_written c.args.radix here.i here.rest here.places (omega arith) c.digit.ensures ∙ here.invariant

pub returns : goal.returns
returns c =
    digits_written c.args.radix c.args.n c.loop-i.rest c.args.places.now {i = c.loop-i.i} (omega arith) c.loop-i.invariant
