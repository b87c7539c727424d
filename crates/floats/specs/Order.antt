-- Least, greatest, absolute value and finiteness, for floats of both widths.
-- Document 01: "`merge` and f32 `max` pass over a NaN, and of equal values `merge` takes the first, sign of zero included." That is IEEE 754-2008's min_num and max_num, with the sign of zero settled.
-- Assumes nothing.
use Rattle.std.specs.Prelude.{Bool, false, cond, Float}
use Rattle.std.specs.Float.{float_with_sign}
use Rattle.std.specs.Float.Ieee.{lt, is_nan}
-- neither an infinity nor a NaN: Rust's `is_finite`
unfoldable pub use Rattle.std.specs.Float.{float_is_finite as is_finite}

-- b where `better` says so, else a; but where one is a NaN, the other
abbrev pub pass_over_nan : Bool → Float → Float → Float
pass_over_nan better a b = cond (is_nan a) b (cond (is_nan b) a (cond better b a))

-- the lesser, and of equal values the first
unfoldable pub min_num : Float → Float → Float
unfolding lt is_nan
min_num a b = pass_over_nan (lt b a) a b

-- the greater, and of equal values the first
unfoldable pub max_num : Float → Float → Float
unfolding lt is_nan
max_num a b = pass_over_nan (lt a b) a b

-- x without its sign: Rust's `abs`
unfoldable pub abs : Float → Float
unfolding float_with_sign
abs x = float_with_sign false x
