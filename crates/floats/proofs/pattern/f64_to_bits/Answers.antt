-- `floats::pattern::f64_to_bits` meets its contract. Assumes nothing.
use mathlib.Core.Path.{◌≡◌, refl, sym, ap, ◌∙◌}
use lib.Ieee.{nan, binary64, to_bits}
use Rattle.floats.proofs.Nans.{nan_of_test}
use Rattle.floats.proofs.pattern.f64_to_bits.Goals as goal

nan_pattern : 0x7ff8_0000_0000_0000 ≡ to_bits binary64 nan
unfolding to_bits
nan_pattern = refl

pub returns-then-is_nan : goal.returns-then-is_nan
returns-then-is_nan c = nan_pattern ∙ sym (ap (to_bits binary64) (nan_of_test c.args.x (sym c.is_nan.ensures.value ∙ c.if-is_nan.true)))
