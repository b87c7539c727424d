use Prim.Native.Nat.{◌+◌, ◌-◌, ◌*◌}
use mathlib.Core.Path.{◌≡◌}
use Rattle.check_record.specs.Tests.{every}
use Rattle.check_record.specs.Floats.{finite_at}
use Rattle.check_record.proofs.finite.all_finite.Given as goal

abbrev pub invariant-loop-i : goal.invariant-loop-i
invariant-loop-i l = every (finite_at l.s) 8 (l.count - l.i) (l.from + 8 * l.i) ≡ every (finite_at l.s) 8 l.count l.from
