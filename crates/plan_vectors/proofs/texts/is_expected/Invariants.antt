-- Every part goes further.
use Rattle.std.proofs.Common.{◌-◌}
use Rattle.plan_vectors.proofs.texts.is_expected.Given as goal

abbrev pub decreases-loop-at : goal.decreases-loop-at
decreases-loop-at l = l.end - l.at
