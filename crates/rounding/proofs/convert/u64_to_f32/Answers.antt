-- `rounding::convert::u64_to_f32` meets its contract. Assumes nothing.
use lib.Ieee.{binary32, of_int}
use Rattle.std.proofs.Common.{pos}
use Rattle.rounding.specs.Packed.{Encodes}
use Rattle.rounding.proofs.convert.Counting.{count_encodes}
use Rattle.rounding.proofs.convert.u64_to_f32.Goals as goal

written : (c : goal.After-pack_as) → Encodes binary32 c.pack_as.result (of_int binary32 (pos c.args.n))
written c = count_encodes c.args.n c.leading_zeros-s.result c.pack_as.result c.leading_zeros-s.ensures c.pack_as.ensures

pub overflow_cast-result : goal.overflow_cast-result
overflow_cast-result c = record { fits = (written c).width }

pub float_from_bits-result : goal.float_from_bits-result
float_from_bits-result c = (written c).number

pub returns : goal.returns
returns c = (written c).reads
