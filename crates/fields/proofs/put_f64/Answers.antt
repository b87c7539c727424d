-- `fields::put_f64` meets its contract. Assumes nothing.
use Rattle.fields.specs.Field.{f64_bytes}
use Rattle.fields.proofs.put_f64.Goals as goal

pub returns : goal.returns
unfolding f64_bytes
returns c = cc
