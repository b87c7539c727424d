-- Places of a layer fit 64 bits, and so do the numbers of places that a plan names.
-- Assumes nothing.
use Prim.Native.Nat.{ℕ, ◌+◌, ◌*◌, ◌≤◌, ◌<◌}
use native.Mathlib.Nat.{mul-le-mul_right}
use native.Mathlib.Omega.{arith}

module _ (layer cells : ℕ) (below : layer ≤ 4294967296) (few : cells < 4294967296) where
  pub layer_fits : layer * cells < 18446744073709551616
  layer_fits = let h : layer * cells ≤ 4294967296 * cells = mul-le-mul_right cells below in omega arith

module _ (layer cells cell : ℕ) (below : layer ≤ 4294967296) (few : cells < 4294967296) where
  pub place_fits : cell < 4294967296 → layer * cells + cell < 18446744073709551616
  place_fits h = let p : layer * cells ≤ 4294967296 * cells = mul-le-mul_right cells below in omega arith

-- (2^32 − 1) · (2^32 + 1) is 2^64 − 1
pub size_fits : (cells layers : ℕ) → cells < 4294967296 → layers ≤ 4294967297 → cells * layers < 18446744073709551616
size_fits cells layers few below =
    let most : cells ≤ 4294967295 = omega arith in
    let p : cells * layers ≤ 4294967295 * layers = mul-le-mul_right layers most in
    omega arith
