-- `rounding::convert::f64_to_f32` meets its contract. Assumes nothing.
use Rattle.std.proofs.Common.{T, sym, ap, ◌∙◌, subst}
use lib.Ieee.{binary64}
use lib.Ieee.Bits.{of_bits-to_bits}
use Rattle.rounding.specs.Narrow.{narrow}
use Rattle.floats.proofs.Nans.{nan_32, nan_of_test, number_of_test}
use Rattle.rounding.proofs.decode.Reading.{number_bits}
use Rattle.rounding.proofs.convert.Narrowing.{narrow_nan}
use Rattle.rounding.proofs.convert.f64_to_f32.Goals as goal

pub returns-then-is_nan : goal.returns-then-is_nan
returns-then-is_nan c =
    nan_32 ∙ sym (ap narrow (nan_of_test c.args.x (sym c.is_nan.ensures.value ∙ c.if-is_nan.true)) ∙ narrow_nan)

pub narrow_normal-requires : goal.narrow_normal-requires
narrow_normal-requires c = sym c.narrows_to_normal.ensures ∙ c.if-narrows_to_normal.true

pub narrow_pattern-requires : goal.narrow_pattern-requires
narrow_pattern-requires c =
    number_bits c.args.x (subst T (sym c.well_formed.0.1) tt) (number_of_test c.args.x (sym c.is_nan.ensures.value ∙ c.if-is_nan.false))

pub returns : goal.returns
returns c =
    c.narrow_pattern.ensures.reads ∙ ap narrow (of_bits-to_bits binary64 c.args.x (subst T (sym c.well_formed.0.1) tt))
