-- `fused::multiply_add::addend_term` meets its contract. Assumes nothing.
use mathlib.Core.Path.{◌∙◌}
use Rattle.rounding.proofs.decode.Signs.{sign_bit_is}
use Rattle.fused.proofs.multiply_add.Terms.{addend_is, addend_operand}
use Rattle.fused.proofs.multiply_add.addend_term.Goals as goal

pub new-requires : goal.new-requires
new-requires c = addend_operand c.normalised-w.ensures

pub returns : goal.returns
returns c = record {
  sign = c.new.ensures.sign ∙ sign_bit_is c.args.z c.ranges.z.fits;
  value = c.new.ensures.value ∙ addend_is c.normalised-w.ensures;
}
