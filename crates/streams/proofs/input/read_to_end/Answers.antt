use Rattle.std.proofs.Common.{sym, ◌∙◌}
use Rattle.streams.proofs.Meanings.{stays_within, consumes_more}
use Rattle.streams.proofs.input.read_to_end.Goals as goal

pub loop-done-preserved-in-Bytes-1 : goal.loop-done-preserved-in-Bytes-1
loop-done-preserved-in-Bytes-1 g c = record {
  in_range = stays_within c.read_behind-last.result _ _ _ (sym c.in-Bytes.is ∙ c.from.ensures) c.read_behind-last.ensures.moves;
  bytes = consumes_more _ _ _ _ _ c.read_behind-last.result c.loop-done.done c.in-Bytes.count (sym c.in-Bytes.is ∙ c.from.ensures) c.read_behind-last.ensures.buffer_unchanged c.loop-done.invariant.bytes c.read_behind-last.ensures.bytes;
}
