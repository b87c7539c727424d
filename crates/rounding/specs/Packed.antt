-- What the shared rounding step answers: the pattern of a rounded value. Assumes nothing.
use Rattle.std.specs.Prelude.{◌≡◌, ℕ, ◌+◌, ◌-◌, ◌*◌, ◌^◌, ◌<◌, min, max, not, T, from_bits, Float}
use Rattle.std.specs.Float.{Format}
use Rattle.std.specs.Float.Ieee.{top, nan_bits}
use Rattle.std.specs.Float.Ieee.Nearest.{closest}

-- The magnitude's pattern, at a format of p digits whose exponent field is o at an infinity, of the float nearest to m * 2 ^ x / 2 ^ b smallest values.
-- m has its top bit, bit 63, set. The exponent's field and the digits are one number, so that a carry out of the digits steps the field.
unfoldable pub packed : ℕ → ℕ → ℕ → ℕ → ℕ → ℕ
packed p o m x b = min ((64 + x - (b + p)) * 2 ^ (p - 1) + closest m (2 ^ max (64 - p) (b - x))) (o * 2 ^ (p - 1))

-- r is a pattern of the format f, of its width and no NaN's, that is read as v
pub record Encodes (f : Format) (r : ℕ) (v : Float) : Type 0 where
  pub width : r < 2 * top f
  pub number : T (not (nan_bits f r))
  pub reads : from_bits f r ≡ v
