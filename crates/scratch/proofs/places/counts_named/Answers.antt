-- `scratch::places::counts_named` meets its contract. Assumes nothing.
use mathlib.Core.Path.{refl}
use native.Mathlib.Omega.{arith}
use Rattle.plan_rules.specs.Scratch.{counts_named}
use Rattle.scratch.proofs.Layers.{size_fits}
use Rattle.scratch.proofs.places.counts_named.Goals as goal

pub overflow_mul-result : goal.overflow_mul-result
overflow_mul-result c = record { fits = size_fits _ _ (omega arith) (omega arith) }

pub returns : goal.returns
unfolding counts_named
returns c = refl
