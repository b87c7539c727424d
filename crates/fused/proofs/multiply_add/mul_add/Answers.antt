-- `fused::multiply_add::mul_add` meets its contract: where a factor is 0, 1 or -1 the plain product is exact. Assumes nothing.
use mathlib.Core.Path.{◌≡◌, sym, ◌∙◌, subst}
use mathlib.Core.Bool.{Bool, true}
use lib.Dec.{T}
use lib.Ieee.{Float, binary64, fits}
use Rattle.fused.specs.Units.{unit_or_zero}
use Rattle.fused.proofs.multiply_add.ExactProduct.{Unit, first_unit, second_unit}
use Rattle.fused.proofs.multiply_add.UnitPattern.{unit_of_test}
use Rattle.fused.proofs.multiply_add.mul_add.Goals as goal
use Rattle.fused.proofs.multiply_add.mul_add.Lts as lts
use Rattle.fused.proofs.multiply_add.mul_add.Reads as reads
use Rattle.fused.proofs.multiply_add.mul_add.Tie as tie

-- what owning an `f64` tells: the format holds it
x_fits : (s : lts.Start tie.the-claims reads.Pre reads.Post) → T (fits binary64 s.args.x)
x_fits s = subst T (sym s.well_formed.0.1) tt

y_fits : (s : lts.Start tie.the-claims reads.Pre reads.Post) → T (fits binary64 s.args.y)
y_fits s = subst T (sym s.well_formed.1.0.1) tt

-- what the test tells
unit : (v : Float) (r : Bool) → T (fits binary64 v) → r ≡ unit_or_zero v → r ≡ true → Unit v
unit v r F e t = unit_of_test v F (subst T (sym (sym e ∙ t)) tt)

pub returns-then-is_unit_or_zero : goal.returns-then-is_unit_or_zero
returns-then-is_unit_or_zero c =
    let s = c.before.before in
    second_unit binary64 s.args.x s.args.y s.args.z (x_fits s) (unit s.args.y _ (y_fits s) c.is_unit_or_zero.ensures c.if-is_unit_or_zero.true)

pub returns-then-is_unit_or_zero-2 : goal.returns-then-is_unit_or_zero-2
returns-then-is_unit_or_zero-2 c =
    let s = c.before.before.before.before in
    first_unit binary64 s.args.x s.args.y s.args.z (unit s.args.x _ (x_fits s) c.is_unit_or_zero-2.ensures c.if-is_unit_or_zero-2.true) (y_fits s)
