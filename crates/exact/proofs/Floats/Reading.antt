-- The integer that a float is, read off it. Assumes nothing.
use mathlib.Core.Path.{◌≡◌, sym, ap, ◌∙◌}
use mathlib.Core.Bool.{Bool, true, false}
use Prim.Native.Nat.{ℕ, ◌+◌, ◌-◌, ◌*◌, ◌/◌, ◌≤◌, ◌<◌}
use native.Mathlib.Nat.{mul-div_cancel, add-mul}
use native.Mathlib.Omega.{arith}
use lib.Ieee.{Float, nan, inf, fin, up, down}
use lib.Ieee.Fits.{down_pos}
use Rattle.exact.specs.Integer.{Integer, integer, negate_if, ◌≐◌}
use Rattle.exact.specs.IsInteger.{IsQuotient, IsInteger, integer_of}
use Rattle.exact.proofs.Floats.Rounding.{quotient_positive, integer_unique}

-- a division that leaves nothing
quotient_divides : (a c u v : ℕ) → 0 < c → a + v * c ≡ u * c → a ≡ a / c * c
quotient_divides a c u v c> h =
    let l : v ≤ u = quotient_positive a c u v c> h in
    let k = u - v in
    let e : u ≡ k + v = omega arith in
    let f : u * c ≡ k * c + v * c = ap (λ (x : ℕ). x * c) e ∙ add-mul k v c in
    let g : a ≡ k * c = omega arith in
    g ∙ ap (λ (x : ℕ). x * c) (sym (ap (λ (x : ℕ). x / c) g ∙ mul-div_cancel k c>))

quotient_read : (s : Bool) (a c : ℕ) → a ≡ a / c * c → IsQuotient s a c (negate_if s (integer (a / c)))
quotient_read false a c h = omega arith
quotient_read true a c h = omega arith

-- a float that is an integer is the one that `integer_of` reads
pub integer_of_is : (x : Float) (i : Integer) → IsInteger x i → IsInteger x (integer_of x)
integer_of_is nan i h = h
integer_of_is (inf s) i h = h
integer_of_is (fin s m e) i h =
    quotient_read s (m * up e) (down e) (quotient_divides (m * up e) (down e) (negate_if s i).pos (negate_if s i).neg (down_pos e) h)

pub integer_of_same : (x : Float) (i : Integer) → IsInteger x i → integer_of x ≐ i
integer_of_same x i h = integer_unique x (integer_of x) i (integer_of_is x i h) h
