use Prim.Native.Nat.{◌-◌}
use lib.ListN.{length}
use Rattle.walk.specs.Offsets.{offsets_from}
use Rattle.walk.specs.Every.{All}
use Rattle.check_record.specs.Record.{Right}
use Rattle.open_sheet.proofs.Filling.{Fills}
use Rattle.open_sheet.proofs.place_records.Given as goal

abbrev pub invariant-loop-at : goal.invariant-loop-at
invariant-loop-at l = All (Right l.sheet) (offsets_from l.sheet l.at) × Fills l.sheet l.initial.finder l.finder l.places (offsets_from l.sheet l.at)

abbrev pub decreases-loop-at : goal.decreases-loop-at
decreases-loop-at l = length l.sheet - l.at
