-- How a number comes to be rounded to odd: from a quotient with the sticky bit, by scaling, and by rounding to odd twice.
-- Assumes nothing.
use mathlib.Core.Path.{◌≡◌, sym, ap, ◌∙◌, subst}
use mathlib.Core.Logic.{◌⊎◌, inl, inr}
use mathlib.Core.Bool.{Bool, true, false, cond}
use Prim.Native.Nat.{ℕ, zero, suc, ◌+◌, ◌-◌, ◌*◌, ◌%◌, ◌^◌, ◌≤◌, ◌<◌}
use native.Mathlib.Nat.{le_refl, le_trans, le_of_eq, lt_irrefl, lt_of_lt_of_le, eq-zero-or-pos, add-mul, suc-mul, mul-one, one-mul, mul_assoc, mul_comm, mul_left_comm, mul-le-mul_right, mul-lt-mul_of_pos_right, eq_of_mul-eq-mul_right, pow-succ', le-add_right, lt_of_mul-lt-mul_right}
use native.Mathlib.Omega.{arith}
use lib.Dec.{eqb, eqb→eq, not_T}
use lib.Bits.{bit_and, bit_or, and_mask, or_add_and}
use lib.Ieee.Bits.{cond_no}
use Rattle.rounding.specs.RoundToOdd.{RoundsToOdd}
use Rattle.fused.specs.RoundToOdd.{with_sticky}

-- ---- `with_sticky`
pub sticky_none : (n r : ℕ) → r ≡ 0 → with_sticky n r ≡ n
unfolding with_sticky
sticky_none n r e = ap (λ (x : ℕ). cond (eqb x 0) n (n + (1 - n % 2))) e

pub sticky_some : (n r : ℕ) → (r ≡ 0 → ⊥) → with_sticky n r ≡ n + (1 - n % 2)
unfolding with_sticky
sticky_some n r h = cond_no (eqb r 0) n (n + (1 - n % 2)) (not_T (eqb r 0) (λ t. h (eqb→eq r 0 t)))

pub or_one : (n : ℕ) → bit_or n 1 ≡ n + (1 - n % 2)
or_one n = go (bit_or n 1) (bit_and n 1) (or_add_and n 1) (and_mask n 1)
  where
    go : (a b : ℕ) → a + b ≡ n + 1 → b ≡ n % 2 → a ≡ n + (1 - n % 2)
    go a b p q = omega arith

sticky_cases : (P : ℕ → Type 0) (n t : ℕ) → P n → P (n + (1 - n % 2)) → P (with_sticky n t)
unfolding with_sticky
sticky_cases P n t p q = go (eqb t 0)
  where
    go : (b : Bool) → P (cond b n (n + (1 - n % 2)))
    go true = p
    go false = q

pub sticky_ge : (n t : ℕ) → n ≤ with_sticky n t
sticky_ge n t = sticky_cases (λ (x : ℕ). n ≤ x) n t (le_refl n) (le-add_right n (1 - n % 2))

pub sticky_lt : (n t : ℕ) → n < 2 ^ 64 → with_sticky n t < 2 ^ 64
sticky_lt n t h = sticky_cases (λ (x : ℕ). x < 2 ^ 64) n t h (go n h)
  where
    go : (n : ℕ) → n < 2 ^ 64 → n + (1 - n % 2) < 2 ^ 64
    go n h = omega arith

-- ---- a number h of units of d, and a rest: made odd where the rest is not 0
pub to_odd_whole : (h n d : ℕ) → h * d + 0 ≡ n → RoundsToOdd h n d
to_odd_whole h n d e = inl (go (h * d) e)
  where
    go : (x : ℕ) → x + 0 ≡ n → x ≡ n
    go x p = omega arith

pub to_odd_rest : (h r n d : ℕ) → h * d + r ≡ n → r < d → (r ≡ 0 → ⊥) → RoundsToOdd (h + (1 - h % 2)) n d
to_odd_rest h r n d e l z = inr (
  odd h,
  subst (λ (x : ℕ). n < x + d) (sym spread) (first (h * d) ((1 - h % 2) * d) e),
  subst (λ (x : ℕ). x < n + d) (sym spread) (second (h * d) ((1 - h % 2) * d) e (subst (λ (x : ℕ). (1 - h % 2) * d ≤ x) (one-mul d) (mul-le-mul_right d (one h)))),
)
  where
    odd : (h : ℕ) → (h + (1 - h % 2)) % 2 ≡ 1
    odd h = omega arith

    one : (h : ℕ) → 1 - h % 2 ≤ 1
    one h = omega arith

    spread : (h + (1 - h % 2)) * d ≡ h * d + (1 - h % 2) * d
    spread = add-mul h (1 - h % 2) d

    first : (x y : ℕ) → x + r ≡ n → n < x + y + d
    first x y p = omega arith

    second : (x y : ℕ) → x + r ≡ n → y ≤ d → x + y < n + d
    second x y p q = omega arith

-- by any number that is 0 where the rest is
pub to_odd_sticky : (h r t n d : ℕ) → h * d + r ≡ n → r < d → (t ≡ 0 → r ≡ 0) → (r ≡ 0 → t ≡ 0) → RoundsToOdd (with_sticky h t) n d
to_odd_sticky h r t n d e l p q = go (eq-zero-or-pos t)
  where
    some : (t : ℕ) → 0 < t → t ≡ 0 → ⊥
    some t a b = omega arith

    go : (t ≡ 0) ⊎ (0 < t) → RoundsToOdd (with_sticky h t) n d
    go (inl z) = subst (λ (x : ℕ). RoundsToOdd x n d) (sym (sticky_none h t z)) (to_odd_whole h n d (ap (λ (x : ℕ). h * d + x) (sym (p z)) ∙ e))
    go (inr g) = subst (λ (x : ℕ). RoundsToOdd x n d) (sym (sticky_some h t (some t g))) (to_odd_rest h r n d e l (λ z. some t g (q z)))

-- ---- the same fraction, scaled
pub to_odd_scale : (m n d c : ℕ) → 0 < c → RoundsToOdd m n d → RoundsToOdd m (n * c) (d * c)
to_odd_scale m n d c C (inl e) = inl (sym (mul_assoc m d c) ∙ ap (λ (x : ℕ). x * c) e)
to_odd_scale m n d c C (inr h) = inr (
  h.0,
  subst (λ (x : ℕ). n * c < x) (add-mul (m * d) d c ∙ ap (λ (x : ℕ). x + d * c) (mul_assoc m d c)) (mul-lt-mul_of_pos_right h.1 C),
  subst (λ (x : ℕ). x < n * c + d * c) (mul_assoc m d c) (subst (λ (x : ℕ). m * d * c < x) (add-mul n d c) (mul-lt-mul_of_pos_right h.2 C)),
)

-- ---- one after another: w is n / d rounded to odd, and m is w / 2 ^ j rounded to odd
even_pow : (m j w : ℕ) → 0 < j → m * 2 ^ j ≡ w → w % 2 ≡ 1 → ⊥
even_pow m zero w J e o = lt_irrefl 0 J
even_pow m (suc j) w J e o = go (m * 2 ^ j) w (sym e ∙ ap (λ (x : ℕ). m * x) (pow-succ' 2 j) ∙ mul_left_comm m 2 (2 ^ j)) o
  where
    go : (x w : ℕ) → w ≡ 2 * x → w % 2 ≡ 1 → ⊥
    go x w a b = omega arith

pub to_odd_again : (m w n d j : ℕ) → 0 < d → RoundsToOdd w n d → RoundsToOdd m w (2 ^ j) → RoundsToOdd m n (d * 2 ^ j)
to_odd_again m w n d j D (inl e) s = subst (λ (x : ℕ). RoundsToOdd m x (d * 2 ^ j)) e (subst (λ (x : ℕ). RoundsToOdd m (w * d) x) (mul_comm (2 ^ j) d) (to_odd_scale m w (2 ^ j) d D s))
to_odd_again m w n d j D (inr h) (inl e) = go (eq-zero-or-pos j)
  where
    go : (j ≡ 0) ⊎ (0 < j) → RoundsToOdd m n (d * 2 ^ j)
    go (inr g) = absurd (even_pow m j w g e h.0)
    go (inl z) =
        let k : w ≡ m = sym e ∙ ap (λ (x : ℕ). m * 2 ^ x) z ∙ mul-one m in
        subst (λ (x : ℕ). RoundsToOdd m n x) (sym (ap (λ (x : ℕ). d * 2 ^ x) z ∙ mul-one d)) (subst (λ (x : ℕ). RoundsToOdd x n d) k (inr h))
to_odd_again m w n d j D (inr h) (inr g) = inr (
  g.0,
  lt_of_lt_of_le h.1 (le_trans (le_of_eq (sym (suc-mul w d))) (le_trans (mul-le-mul_right d g.1) (le_of_eq (add-mul (m * 2 ^ j) (2 ^ j) d ∙ both)))),
  up (m * (d * 2 ^ j)) (w * d) (d * 2 ^ j) (subst (λ (x : ℕ). x ≤ w * d + d * 2 ^ j) (add-mul (m * 2 ^ j) 1 d ∙ ones) (subst (λ (x : ℕ). (m * 2 ^ j + 1) * d ≤ x) (add-mul w (2 ^ j) d ∙ ap (λ (x : ℕ). w * d + x) (mul_comm (2 ^ j) d)) (mul-le-mul_right d (next (m * 2 ^ j) (w + 2 ^ j) g.2)))) h.2,
)
  where
    both : m * 2 ^ j * d + 2 ^ j * d ≡ m * (d * 2 ^ j) + d * 2 ^ j
    both = (λ i. (mul_assoc m (2 ^ j) d ∙ ap (λ (x : ℕ). m * x) (mul_comm (2 ^ j) d)) i + mul_comm (2 ^ j) d i)

    ones : m * 2 ^ j * d + 1 * d ≡ m * (d * 2 ^ j) + d
    ones = (λ i. (mul_assoc m (2 ^ j) d ∙ ap (λ (x : ℕ). m * x) (mul_comm (2 ^ j) d)) i + one-mul d i)

    next : (a b : ℕ) → a < b → a + 1 ≤ b
    next a b p = omega arith

    up : (x y z : ℕ) → x + d ≤ y + z → y < n + d → x < n + z
    up x y z p q = omega arith

pub to_odd_unscale : (m n d c : ℕ) → 0 < c → RoundsToOdd m (n * c) (d * c) → RoundsToOdd m n d
to_odd_unscale m n d c C (inl e) = inl (eq_of_mul-eq-mul_right c C (m * d) n (mul_assoc m d c ∙ e))
to_odd_unscale m n d c C (inr h) = inr (
  h.0,
  lt_of_mul-lt-mul_right c (subst (λ (x : ℕ). n * c < x) (sym (add-mul (m * d) d c ∙ ap (λ (x : ℕ). x + d * c) (mul_assoc m d c))) h.1),
  lt_of_mul-lt-mul_right c (subst (λ (x : ℕ). x < (n + d) * c) (sym (mul_assoc m d c)) (subst (λ (x : ℕ). m * (d * c) < x) (sym (add-mul n d c)) h.2)),
)
