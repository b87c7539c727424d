-- The fused multiply-add, in the style of `lib.Ieee`: the exact result as a fraction, rounded once. Document 01: "`mul_add` is the fused operation, rounded once."
-- Assumes nothing.
use Rattle.std.specs.Prelude.{◌*◌, Float}
use Rattle.std.specs.Float.{nan, inf, fin, Format}
use Rattle.std.specs.Float.Ieee.{unlike, up, down, sum, add, mul}

-- x * y + z, rounded once. Where a factor is no number of finite size the product is exact, and so is the sum.
unfoldable pub fma : Format → Float → Float → Float → Float
unfolding sum add mul
fma f nan y z = nan
fma f (inf s) y z = add f (mul f (inf s) y) z
fma f (fin s m e) nan z = nan
fma f (fin s m e) (inf t) z = add f (mul f (fin s m e) (inf t)) z
fma f (fin s m e) (fin t n d) nan = nan
fma f (fin s m e) (fin t n d) (inf u) = inf u
fma f (fin s m e) (fin t n d) (fin u k g) =
    sum f (unlike s t) (m * up e * (n * up d) * down g) u (k * up g * (down e * down d)) (down e * down d * down g)
