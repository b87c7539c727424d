-- `fused::multiply_add::Term::new` meets its contract. Assumes nothing.
use mathlib.Core.Path.{refl}
use Rattle.fused.proofs.multiply_add.Terms.{operand_zero, some, zero_scaled}
use Rattle.fused.proofs.multiply_add.Term.new.Goals as goal

pub invariant_of-result : goal.invariant_of-result
invariant_of-result c = record { is_operand = operand_zero _ c.if-significand-eq0.true }

pub returns-then-significand-eq0 : goal.returns-then-significand-eq0
returns-then-significand-eq0 c = record { sign = refl; value = zero_scaled _ _ c.if-significand-eq0.true }

pub invariant_of-result-2 : goal.invariant_of-result-2
invariant_of-result-2 c = record { is_operand = c.requires (some _ c.if-significand-eq0.false) }
