-- `rounding::decode::exponent_field_of` meets its contract. Assumes nothing.
use Rattle.rounding.proofs.decode.Reading.{field_is}
use Rattle.rounding.proofs.decode.exponent_field_of.Goals as goal

pub returns : goal.returns
returns c = field_is c.args.n
