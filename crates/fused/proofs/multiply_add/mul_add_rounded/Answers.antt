-- `fused::multiply_add::mul_add_rounded` meets its contract. Assumes nothing.
use mathlib.Core.Path.{◌≡◌, sym, ap, ◌∙◌, subst}
use mathlib.Core.Bool.{Bool, true, false, not}
use lib.Dec.{T}
use lib.Ieee.{Float, binary64, is_nan}
use lib.Ieee.Bits.{of_bits-to_bits}
use Rattle.fused.specs.Fma.{fma}
use Rattle.floats.proofs.Nans.{nan_64, nan_of_test, number_of_test}
use Rattle.fused.proofs.multiply_add.Exceptional.{fma_nan_first, fma_nan_second, fma_nan_third, fma_infinite_first, fma_infinite_second, fma_infinite_third}
use Rattle.rounding.proofs.decode.Reading.{infinite_at, finite_at_lem}
use Rattle.fused.proofs.multiply_add.mul_add_rounded.Goals as goal

-- what owning an `f64` tells: the format holds it
held : {b : Bool} → b ≡ true → T b
held e = subst T (sym e) tt

number : (x : Float) {r : Bool} → r ≡ is_nan x → r ≡ false → T (not (is_nan x))
number x e h = number_of_test x (sym e ∙ h)

pub returns-then-is_nan : goal.returns-then-is_nan
returns-then-is_nan c =
    let a = c.args in
    nan_64 ∙ sym (ap (λ (v : Float). fma binary64 v a.y a.z) (nan_of_test a.x (sym c.is_nan.ensures.value ∙ c.if-is_nan.true)) ∙ fma_nan_first binary64 a.y a.z)

pub returns-then-is_nan-2 : goal.returns-then-is_nan-2
returns-then-is_nan-2 c =
    let a = c.args in
    nan_64 ∙ sym (ap (λ (v : Float). fma binary64 a.x v a.z) (nan_of_test a.y (sym c.is_nan-2.ensures.value ∙ c.if-is_nan-2.true)) ∙ fma_nan_second binary64 a.x a.z)

pub returns-then-is_nan-3 : goal.returns-then-is_nan-3
returns-then-is_nan-3 c =
    let a = c.args in
    nan_64 ∙ sym (ap (λ (v : Float). fma binary64 a.x a.y v) (nan_of_test a.z (sym c.is_nan-3.ensures.value ∙ c.if-is_nan-3.true)) ∙ fma_nan_third binary64 a.x a.y)

pub returns-then-fa-eq2047 : goal.returns-then-fa-eq2047
returns-then-fa-eq2047 c =
    let a = c.args in
    fma_infinite_first binary64 a.x a.y a.z _
    (infinite_at a.x (held c.well_formed.0.1) (number a.x c.is_nan.ensures.value c.if-is_nan.false) (sym c.exponent_field_of-fa.ensures ∙ c.if-fa-eq2047.true))

pub returns-then-fb-eq2047 : goal.returns-then-fb-eq2047
returns-then-fb-eq2047 c =
    let a = c.args in
    fma_infinite_second binary64 a.x a.y a.z _ _ _ _ (finite_at_lem a.x (held c.well_formed.0.1) (λ e. c.if-fa-eq2047.false (c.exponent_field_of-fa.ensures ∙ e)))
    (infinite_at a.y (held c.well_formed.1.0.1) (number a.y c.is_nan-2.ensures.value c.if-is_nan-2.false) (sym c.exponent_field_of-fb.ensures ∙ c.if-fb-eq2047.true))

pub returns-then-fc-eq2047 : goal.returns-then-fc-eq2047
returns-then-fc-eq2047 c =
    let a = c.args in
    fma_infinite_third binary64 a.x a.y a.z _ _ _ _ _ _ _ (finite_at_lem a.x (held c.well_formed.0.1) (λ e. c.if-fa-eq2047.false (c.exponent_field_of-fa.ensures ∙ e)))
    (finite_at_lem a.y (held c.well_formed.1.0.1) (λ e. c.if-fb-eq2047.false (c.exponent_field_of-fb.ensures ∙ e)))
    (infinite_at a.z (held c.well_formed.1.1.0.1) (number a.z c.is_nan-3.ensures.value c.if-is_nan-3.false) (sym c.exponent_field_of-fc.ensures ∙ c.if-fc-eq2047.true))

pub fused_pattern-requires : goal.fused_pattern-requires
fused_pattern-requires c =
    ((λ e. c.if-fa-eq2047.false (c.exponent_field_of-fa.ensures ∙ e)), (λ e. c.if-fb-eq2047.false (c.exponent_field_of-fb.ensures ∙ e)), (λ e. c.if-fc-eq2047.false (c.exponent_field_of-fc.ensures ∙ e)))

pub returns : goal.returns
returns c =
    let a = c.args in
    c.fused_pattern.ensures.reads
    ∙ (λ i. fma binary64 (of_bits-to_bits binary64 a.x (held c.well_formed.0.1) i) (of_bits-to_bits binary64 a.y (held c.well_formed.1.0.1) i) (of_bits-to_bits binary64 a.z (held c.well_formed.1.1.0.1) i))
