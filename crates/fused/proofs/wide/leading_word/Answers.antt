-- `fused::wide::leading_word` meets its contract. Assumes nothing.
use Rattle.rounding.proofs.nearest.Normalising.{normalises}
use Rattle.fused.proofs.wide.LeadingBits.{word_fits, leading}
use Rattle.fused.proofs.wide.leading_word.Goals as goal

pub overflow_cast-result : goal.overflow_cast-result
overflow_cast-result c =
    let n = c.args.n in
    let t = normalises 127 n c.requires c.ranges.n.fits in
    record { fits = word_fits n _ t.0 t.1 t.2 c.with_sticky-word.result c.with_sticky-word.ensures }

pub returns : goal.returns
returns c =
    let n = c.args.n in
    let t = normalises 127 n c.requires c.ranges.n.fits in
    leading n _ t.0 t.1 t.2 c.with_sticky-word.result c.with_sticky-word.ensures
