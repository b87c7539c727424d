-- `tape::numbers::put_all` meets its contract. Assumes nothing.
use Rattle.std.proofs.Common.{◌∙◌, arith}
use Rattle.tape.proofs.Left.{left_more, left_none}
use Rattle.tape.proofs.numbers.put_all.Goals as goal

pub loop-number-preserved : goal.loop-number-preserved
loop-number-preserved g c = record {
  place = omega arith;
  whole = left_more g.T.Number.field g.met.T.Number.wide _ _ _ _ _ _ c.loop-number-test.true c.number-item.is c.put.ensures ∙ c.loop-number.invariant.whole;
}

pub returns : goal.returns
returns g c = left_none g.T.Number.field _ _ _ _ c.loop-number-test.false ∙ c.loop-number.invariant.whole
