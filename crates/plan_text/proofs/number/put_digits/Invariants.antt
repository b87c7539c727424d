-- What is written with the digits left is the whole.
use Rattle.std.proofs.Common.{◌≡◌, length}
use Rattle.std.proofs.lemmas.List.Edits.{sets}
use Rattle.plan_text.specs.Text.{digits}
use Rattle.plan_text.proofs.number.put_digits.Given as goal

abbrev pub invariant-loop-i : goal.invariant-loop-i
invariant-loop-i l = sets l.places 0 (digits l.radix l.i l.rest) ≡ sets l.initial.places 0 (digits l.radix (length l.initial.places) l.n)
