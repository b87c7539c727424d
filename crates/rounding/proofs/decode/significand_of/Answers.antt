-- `rounding::decode::significand_of` meets its contract. Assumes nothing.
use Rattle.std.proofs.Common.{sym, ◌∙◌}
use Rattle.rounding.proofs.decode.Reading.{significand_zero, significand_more}
use Rattle.rounding.proofs.decode.significand_of.Goals as goal

pub returns-then-field-eq0 : goal.returns-then-field-eq0
returns-then-field-eq0 c =
    significand_zero c.args.n (sym c.exponent_field_of-field.ensures ∙ c.if-field-eq0.true)

pub returns-else-field-eq0 : goal.returns-else-field-eq0
returns-else-field-eq0 c =
    significand_more c.args.n (λ e. c.if-field-eq0.false (c.exponent_field_of-field.ensures ∙ e))
