use Prim.Native.Nat.{◌-◌}
use mathlib.Core.Path.{◌≡◌}
use lib.ListN.{length}
use Rattle.walk.specs.Offsets.{offsets_from, offsets}
use Rattle.std.specs.Prelude.{Ok}
use Rattle.check_sheet.specs.Count.{counts_of}
use Rattle.check_sheet.specs.Check.{first_no}
use Rattle.check_sheet.proofs.Passed.{Passed}
use Rattle.check_sheet.proofs.scan.scan.Given as goal

abbrev pub invariant-loop-at : goal.invariant-loop-at
invariant-loop-at l = Passed l.s l.at l.counts × (first_no l.s (offsets_from l.s l.at) (Ok (counts_of l.s)) ≡ first_no l.s (offsets l.s) (Ok (counts_of l.s)))

abbrev pub decreases-loop-at : goal.decreases-loop-at
decreases-loop-at l = length l.s - l.at
