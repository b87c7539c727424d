-- `plan_text::number::decimal_size` meets its contract. The loop's invariant: the digits passed and those left are all.
-- Assumes nothing.
use native.Mathlib.Omega.{arith}
use Rattle.plan_text.proofs.Digits.{decimal_size_few, decimal_size_many, decimal_size_most}
use Rattle.plan_text.proofs.number.decimal_size.Goals as goal

pub loop-rest-init : goal.loop-rest-init
loop-rest-init c = (omega arith, omega arith)

pub overflow_add-size : goal.overflow_add-size
overflow_add-size c = omega (arith, decimal_size_most c.args.n)

pub loop-rest-preserved : goal.loop-rest-preserved
loop-rest-preserved c = (omega (arith, decimal_size_many c.loop-rest.rest (omega arith) (omega arith)), omega arith)

pub returns : goal.returns
returns c = let one = decimal_size_few c.loop-rest.rest (omega arith) in (omega arith, omega (arith, decimal_size_most c.args.n))

pub loop-rest-smaller : goal.loop-rest-smaller
loop-rest-smaller c = omega arith
