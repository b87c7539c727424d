-- `rounding::decode::exponent_of` meets its contract. Assumes nothing.
use Rattle.std.proofs.Common.{ℕ, ◌-◌, sym, ap, ◌∙◌}
use Rattle.rounding.specs.Fields.{exponent_of}
use Rattle.rounding.proofs.decode.exponent_of.Goals as goal

pub returns-then-field-eq0 : goal.returns-then-field-eq0
unfolding exponent_of
returns-then-field-eq0 c =
    let z = c.exponent_field_of-field.ensures in
    sym (ap (λ (x : ℕ). x - 1) (sym z ∙ c.if-field-eq0.true))

pub returns-else-field-eq0 : goal.returns-else-field-eq0
unfolding exponent_of
returns-else-field-eq0 c =
    ap (λ (x : ℕ). x - 1) c.exponent_field_of-field.ensures
