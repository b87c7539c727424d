-- What is left of the text falls.
use Rattle.std.proofs.Common.{length}
use Rattle.floats_vectors.proofs.cases.Group.replay.Given as goal

abbrev pub decreases-loop-rest : goal.decreases-loop-rest
decreases-loop-rest g l = length l.rest
