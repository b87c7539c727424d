-- The words are taken off the text.
use Rattle.std.proofs.Common.{◌≤◌, length}
use Rattle.floats_vectors.proofs.cases.Group.first_case.Given as goal

abbrev pub invariant-loop-operand : goal.invariant-loop-operand
invariant-loop-operand g l = length l.rest ≤ length l.text
