-- Assumes nothing.
use mathlib.Core.Path.{◌≡◌, refl, sym, ap, ◌∙◌, subst}
use native.Mathlib.Nat.{lt_of_lt_of_le}
use lib.Dec.{T, lit≤}
use lib.Ieee.Bits.{to_bits-lt}
use lib.Ieee.{nan, binary32, fits, to_bits}
use Rattle.floats.proofs.Nans.{nan_of_differs, number_of_equal}
use Rattle.floats_vectors.proofs.single.f32_to_bits.Goals as goal

nan_pattern : 0x7fc0_0000 ≡ to_bits binary32 nan
unfolding to_bits
nan_pattern = refl

pub float_to_bits-result : goal.float_to_bits-result
float_to_bits-result c = number_of_equal c.args.x c.if-x.false

pub returns-then-x : goal.returns-then-x
returns-then-x c = nan_pattern ∙ sym (ap (to_bits binary32) (nan_of_differs c.args.x c.if-x.true))

-- what owning an `f32` tells: the format holds it
pub overflow_cast-result : goal.overflow_cast-result
overflow_cast-result c =
    let held : T (fits binary32 c.args.x) = subst T (sym c.well_formed.0.1) tt in
    record { fits = lt_of_lt_of_le (to_bits-lt binary32 c.args.x held) (lit≤ tt) }
