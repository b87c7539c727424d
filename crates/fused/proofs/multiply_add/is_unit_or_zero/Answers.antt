-- `fused::multiply_add::is_unit_or_zero` meets its contract. Assumes nothing.
use mathlib.Core.Path.{sym, ◌∙◌}
use Rattle.fused.specs.Units.{unit_or_zero}
use Rattle.floats.proofs.Nans.{nan_of_test}
use Rattle.fused.proofs.multiply_add.UnitPattern.{pattern_test, product_fits, nan_is_none}
use Rattle.fused.proofs.multiply_add.is_unit_or_zero.Goals as goal

pub returns-then-is_nan : goal.returns-then-is_nan
returns-then-is_nan c = nan_is_none c.args.v (nan_of_test c.args.v (sym c.is_nan.ensures.value ∙ c.if-is_nan.true))

pub overflow_mul-other : goal.overflow_mul-other
overflow_mul-other c = record { fits = product_fits _ c.exponent_field_of-field.result c.exponent_field_of-field.ensures }

pub returns : goal.returns
unfolding unit_or_zero
returns c = pattern_test _ c.exponent_field_of-field.result c.exponent_field_of-field.ensures
