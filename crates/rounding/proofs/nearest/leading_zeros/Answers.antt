-- `rounding::nearest::leading_zeros` meets its contract. Assumes nothing.
use lib.Count.{leading_le}
use Rattle.std.proofs.Common.{lt_of_le_of_lt, lit<}
use Rattle.rounding.proofs.nearest.Normalising.{leading_zeros_normalise}
use Rattle.rounding.proofs.nearest.leading_zeros.Goals as goal

pub overflow_cast-result : goal.overflow_cast-result
overflow_cast-result c = record { fits = lt_of_le_of_lt (leading_le 64 c.args.v) (lit< tt) }

pub returns : goal.returns
returns c = leading_zeros_normalise c.args.v c.requires c.ranges.v.fits
