-- An f64 as an f32, Rust's `as f32`. Document 01: "Float narrowing and count-to-float round to nearest, ties to even." The count is `lib.Ieee`'s `of_int`.
-- Assumes nothing.
use Rattle.std.specs.Prelude.{◌*◌, Bool, false, ◌&&◌, pos, negsuc, Float}
use Rattle.std.specs.Float.{nan, inf, fin, binary32}
use Rattle.std.specs.Float.Ieee.{up, down, round, lt, le}

-- the f32 nearest to an f64
unfoldable pub narrow : Float → Float
unfolding round
narrow nan = nan
narrow (inf s) = inf s
narrow (fin s m e) = round binary32 s (m * up e) (down e)

-- from 2 ^ -126, the least normal f32, up to 2 ^ 128
unfoldable pub narrows_to_normal : Float → Bool
narrows_to_normal x = le (fin false 1 (negsuc 125)) x && lt x (fin false 1 (pos 128))
