-- `fused::multiply_add::product_term` meets its contract. Assumes nothing.
use mathlib.Core.Path.{refl, ◌∙◌}
use Rattle.rounding.proofs.decode.Signs.{unlike_bits}
use Rattle.fused.proofs.multiply_add.Terms.{product_value, product_operand}
use Rattle.fused.proofs.multiply_add.product_term.Goals as goal

pub new-requires : goal.new-requires
new-requires c = product_operand c.normalised-u.ensures c.normalised-v.ensures refl

pub returns : goal.returns
returns c = record {
  sign = c.new.ensures.sign ∙ unlike_bits c.args.x c.args.y c.ranges.x.fits c.ranges.y.fits;
  value = c.new.ensures.value ∙ product_value c.normalised-u.ensures c.normalised-v.ensures refl;
}
