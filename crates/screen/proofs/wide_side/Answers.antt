-- `screen::wide_side` meets its contract. Assumes nothing.
use mathlib.Core.Path.{ap}
use lib.Ieee.{Float}
use Rattle.floats.specs.Order.{abs}
use Rattle.geometry.specs.Rounded.{◌⊗◌}
use Rattle.screen.proofs.wide_side.Goals as goal

pub returns : goal.returns
unfolding abs
returns c = ap (λ (x : Float). x ⊗ c.args.zoom) c.abs.ensures.value
