use Prim.Native.Nat.{◌+◌, ◌-◌, ◌*◌}
use mathlib.Core.Path.{◌≡◌}
use Rattle.check_record.specs.Tests.{every}
use Rattle.check_sheet.specs.Links.{below_at}
use Rattle.check_sheet.proofs.links.all_below.Given as goal

abbrev pub invariant-loop-i : goal.invariant-loop-i
invariant-loop-i l = every (below_at l.s l.bound) 4 (l.count - l.i) (l.from + 4 * l.i) ≡ every (below_at l.s l.bound) 4 l.count l.from
