use Rattle.std.proofs.Common.{sym, ◌∙◌}
use Rattle.streams.proofs.Meanings.{stays_within, appends_more}
use Rattle.streams.proofs.output.write_all.Goals as goal

pub loop-done-preserved-in-Bytes-1 : goal.loop-done-preserved-in-Bytes-1
loop-done-preserved-in-Bytes-1 g c = record {
  in_range = stays_within c.write_rest-last.result _ _ _ (sym c.in-Bytes.is ∙ c.from.ensures) c.write_rest-last.ensures.moves;
  bytes = appends_more _ _ _ _ c.write_rest-last.result c.loop-done.done c.in-Bytes.count (sym c.in-Bytes.is ∙ c.from.ensures) c.loop-done.invariant.bytes c.write_rest-last.ensures.bytes;
}
