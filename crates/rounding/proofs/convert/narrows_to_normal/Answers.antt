-- `rounding::convert::narrows_to_normal` meets its contract. Assumes nothing.
use lib.Ieee.{of_bits}
use Rattle.rounding.specs.Narrow.{narrows_to_normal}
use Rattle.rounding.proofs.convert.narrows_to_normal.Goals as goal

pub returns-then-x : goal.returns-then-x
unfolding narrows_to_normal of_bits
returns-then-x c = rw c.if-x.true

pub returns-else-x : goal.returns-else-x
unfolding narrows_to_normal of_bits
returns-else-x c = rw c.if-x.false
