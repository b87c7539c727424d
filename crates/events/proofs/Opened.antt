-- To compute what an event leaves, a proof names one: `unfolding opened`. Assumes nothing.
use Prim.Native.Nat.{ℕ}
use Rattle.plan_rules.specs.Event.{after, ◌⊞◌}
use Rattle.plan_rules.specs.Push.{say}
use Rattle.plan_rules.specs.Tape.{put_record, on_tape}

unfoldable pub opened : ℕ
unfolding say after ◌⊞◌ on_tape put_record
opened = 0
