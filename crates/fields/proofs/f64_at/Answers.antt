-- `fields::f64_at` meets its contract. Assumes nothing.
use mathlib.Core.Path.{ap, ◌∙◌}
use lib.Ieee.{binary64, of_bits}
use Rattle.fields.specs.Field.{f64_at}
use Rattle.fields.proofs.f64_at.Goals as goal

pub returns : goal.returns
unfolding f64_at
returns c = c.f64_from_bits.ensures ∙ ap (of_bits binary64) c.u64_at.ensures
