use Prim.Native.Nat.{◌-◌}
use lib.ListN.{length}
use Rattle.check_sheet.proofs.Remaining.{Remaining}
use Rattle.check_sheet.proofs.links.links.Given as goal

abbrev pub invariant-loop-to_ask : goal.invariant-loop-to_ask
invariant-loop-to_ask l = Remaining l.s l.c l.at l.own l.to_ask

abbrev pub decreases-loop-to_ask : goal.decreases-loop-to_ask
decreases-loop-to_ask l = length l.s - l.at
