-- The sign of a pattern, as a test, as a bit, and as two shifts move it to another width.
-- Assumes nothing.
use Rattle.std.proofs.Common.{◌≡◌, ℕ, ◌+◌, ◌*◌, ◌/◌, ◌%◌, ◌^◌, ◌<◌, ◌≤◌, Bool, true, false, cond, not, T, eqb, leb, sym, refl, ap, ◌∙◌, mod-eq_of_lt, one-mul, zero-add, zero-mul, arith, leb→le}
use lib.Dec.{nleb→lt}
use lib.Pow.{pow-lt}
use lib.Bits.{bit_or, or_shifted, or_zero_l}
use lib.Ieee.{unlike}

-- ---- the sign, as two shifts move it from bit 63 to bit k, and the magnitude under it
pub sign_is : (n k : ℕ) → n < 2 ^ 64 → k < 64 → n / 2 ^ 63 * 2 ^ k % 2 ^ 64 ≡ cond (leb (2 ^ 63) n) (2 ^ k) 0
sign_is n k h g = go (leb (2 ^ 63) n) (leb→le (2 ^ 63) n) (nleb→lt (2 ^ 63) n)
  where
    high : (n : ℕ) → n < 2 ^ 64 → 2 ^ 63 ≤ n → n / 2 ^ 63 ≡ 1
    high n a b = omega arith

    none : (n : ℕ) → n < 2 ^ 63 → n / 2 ^ 63 ≡ 0
    none n a = omega arith

    go : (t : Bool) → (T t → 2 ^ 63 ≤ n) → (T (not t) → n < 2 ^ 63) → n / 2 ^ 63 * 2 ^ k % 2 ^ 64 ≡ cond t (2 ^ k) 0
    go true a b = ap (λ (x : ℕ). x * 2 ^ k % 2 ^ 64) (high n h (a tt)) ∙ ap (λ (x : ℕ). x % 2 ^ 64) (one-mul (2 ^ k)) ∙ mod-eq_of_lt (pow-lt g)
    go false a b = ap (λ (x : ℕ). x * 2 ^ k % 2 ^ 64) (none n (b tt)) ∙ ap (λ (x : ℕ). x % 2 ^ 64) (zero-mul (2 ^ k))

pub with_sign : (t : Bool) (k y : ℕ) → y < 2 ^ k → bit_or (cond t (2 ^ k) 0) y ≡ cond t (2 ^ k) 0 + y
with_sign true k y l = ap (λ (x : ℕ). bit_or x y) (sym (one-mul (2 ^ k))) ∙ or_shifted 1 k y l ∙ ap (λ (x : ℕ). x + y) (one-mul (2 ^ k))
with_sign false k y l = or_zero_l y ∙ sym (zero-add y)

pub signed : (n k y : ℕ) → n < 2 ^ 64 → k < 64 → y < 2 ^ k → bit_or (n / 2 ^ 63 * 2 ^ k % 2 ^ 64) y ≡ cond (leb (2 ^ 63) n) (2 ^ k) 0 + y
signed n k y h g l = ap (λ (x : ℕ). bit_or x y) (sign_is n k h g) ∙ with_sign (leb (2 ^ 63) n) k y l

-- ---- the signs, by their bits
sign_bit : (n : ℕ) → n < 2 ^ 64 → (b : Bool) → (T b → 2 ^ 63 ≤ n) → (T (not b) → n < 2 ^ 63) → n / 2 ^ 63 ≡ cond b 1 0
sign_bit n h true p q = high n h (p tt)
  where
    high : (n : ℕ) → n < 2 ^ 64 → 2 ^ 63 ≤ n → n / 2 ^ 63 ≡ 1
    high n a b = omega arith
sign_bit n h false p q = none n (q tt)
  where
    none : (n : ℕ) → n < 2 ^ 63 → n / 2 ^ 63 ≡ 0
    none n a = omega arith

bit : (n : ℕ) → n < 2 ^ 64 → n / 2 ^ 63 ≡ cond (leb (2 ^ 63) n) 1 0
bit n h = sign_bit n h (leb (2 ^ 63) n) (leb→le (2 ^ 63) n) (nleb→lt (2 ^ 63) n)

pub unlike_bits : (x y : ℕ) → x < 2 ^ 64 → y < 2 ^ 64 → not (eqb (x / 2 ^ 63) (y / 2 ^ 63)) ≡ unlike (leb (2 ^ 63) x) (leb (2 ^ 63) y)
unlike_bits x y h k = (λ i. not (eqb (bit x h i) (bit y k i))) ∙ go (leb (2 ^ 63) x) (leb (2 ^ 63) y)
  where
    go : (a b : Bool) → not (eqb (cond a 1 0) (cond b 1 0)) ≡ unlike a b
    go true true = refl
    go true false = refl
    go false true = refl
    go false false = refl

pub sign_bit_is : (z : ℕ) → z < 2 ^ 64 → not (eqb (z / 2 ^ 63) 0) ≡ leb (2 ^ 63) z
sign_bit_is z h = (λ i. not (eqb (bit z h i) 0)) ∙ go (leb (2 ^ 63) z)
  where
    go : (a : Bool) → not (eqb (cond a 1 0) 0) ≡ a
    go true = refl
    go false = refl
