-- `fused::multiply_add::round_wide` meets its contract. Assumes nothing.
use Rattle.fused.proofs.multiply_add.Rounding.{round_wide_zero, round_wide_some}
use Rattle.fused.proofs.multiply_add.round_wide.Goals as goal

pub returns-then-w-eq0 : goal.returns-then-w-eq0
returns-then-w-eq0 c =
    λ n h. round_wide_zero c.args.s c.args.w c.args.e c.sign_bit-sign.result n c.sign_bit-sign.ensures c.if-w-eq0.true h

pub returns : goal.returns
returns c =
    λ n h. round_wide_some c.args.s c.args.w c.args.e c.pack_as.result n c.leading_word-leading.result.word c.leading_word-leading.result.shift c.sign_bit-sign.result c.sign_bit-sign.ensures c.leading_word-leading.ensures c.pack_as.ensures h
