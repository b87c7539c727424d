-- The three tests of `min` and `max` choose as `pass_over_nan` does: one law for both directions. Assumes nothing.
use mathlib.Core.Path.{◌≡◌, sym, ◌∙◌}
use mathlib.Core.Bool.{Bool, cond}
use lib.Ieee.{Float, is_nan}
use Rattle.floats.specs.Order.{pass_over_nan}

pub chooses : (better : Bool) (a b : Float) (p q t : Bool) → is_nan a ≡ p → is_nan b ≡ q → better ≡ t → cond p b (cond q a (cond t b a)) ≡ pass_over_nan better a b
chooses better a b p q t A B C = λ i. cond (sym A i) b (cond (sym B i) a (cond (sym C i) b a))
