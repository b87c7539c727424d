-- `scratch::places::place` meets its contract. Assumes nothing.
use mathlib.Core.Path.{refl}
use Rattle.plan_rules.specs.Scratch.{place}
use Rattle.scratch.proofs.Layers.{layer_fits, place_fits}
use borrow.Author.Rules.{rules}
use Rattle.scratch.proofs.places.place.Goals as goal

pub overflow_mul-result : goal.overflow_mul-result
overflow_mul-result c = record { fits = layer_fits _ _ (search rules) (search rules) }

pub overflow_add-result : goal.overflow_add-result
overflow_add-result c = record { fits = place_fits _ _ _ (search rules) (search rules) (search rules) }

pub returns : goal.returns
unfolding place
returns c = refl
