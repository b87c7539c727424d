-- A box merged with itself is itself, NaNs included.
-- Assumes nothing.
use mathlib.Core.Path.{◌≡◌, refl}
use mathlib.Core.Bool.{Bool, true, false, cond}
use lib.Ieee.{Float, lt, is_nan}
use Rattle.floats.specs.Order.{min_num, max_num}
use Rattle.geometry.specs.declared.bbox.WorldBBox.{WorldBBox}
use Rattle.geometry.specs.Bbox.{merge}

same : (missing better : Bool) (x : Float) → cond missing x (cond missing x (cond better x x)) ≡ x
same true better x = refl
same false true x = refl
same false false x = refl

pub merge_itself : (b : WorldBBox) → merge b b ≡ b
unfolding merge min_num max_num
merge_itself b =
    λ i. record {
      min_x = same (is_nan b.min_x) (lt b.min_x b.min_x) b.min_x i;
      min_y = same (is_nan b.min_y) (lt b.min_y b.min_y) b.min_y i;
      max_x = same (is_nan b.max_x) (lt b.max_x b.max_x) b.max_x i;
      max_y = same (is_nan b.max_y) (lt b.max_y b.max_y) b.max_y i;
    }
