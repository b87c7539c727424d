-- The layers passed are copied.
use Rattle.std.proofs.Common.{◌≡◌}
use Rattle.std.proofs.lemmas.List.Edits.{sets}
use Rattle.plan_query.specs.Query.{query_length, layers_from}
use Rattle.plan_query.proofs.copy_hidden.Given as goal

abbrev pub invariant-loop-i : goal.invariant-loop-i
invariant-loop-i l = l.hidden ≡ sets l.initial.hidden 0 (layers_from l.i l.input query_length)
