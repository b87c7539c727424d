-- `scratch::places::marks_named` meets its contract. Assumes nothing.
use mathlib.Core.Path.{refl}
use native.Mathlib.Omega.{arith}
use Rattle.plan_rules.specs.Scratch.{marks_named}
use Rattle.scratch.proofs.Layers.{size_fits}
use Rattle.scratch.proofs.places.marks_named.Goals as goal

pub overflow_mul-result : goal.overflow_mul-result
overflow_mul-result c = record { fits = size_fits _ _ (omega arith) (omega arith) }

pub returns : goal.returns
unfolding marks_named
returns c = refl
