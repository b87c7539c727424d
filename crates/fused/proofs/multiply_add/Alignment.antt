-- The sum and the difference of a number and one that was shifted down and rounded to odd are themselves rounded to odd: what was cut off lies far below the leading term.
-- Assumes nothing.
use mathlib.Core.Path.{◌≡◌, refl, sym, ap, ◌∙◌, subst}
use mathlib.Core.Logic.{◌⊎◌, inl, inr}
use Prim.Native.Nat.{ℕ, suc, ◌+◌, ◌-◌, ◌*◌, ◌/◌, ◌%◌, ◌^◌, ◌≤◌, ◌<◌}
use native.Mathlib.Nat.{le_trans, le_of_eq, le_of_lt, lt_irrefl, lt_of_lt_of_le, lt_of_le_of_lt, lt_of_not-le, add-mul, suc-mul, zero-mul, mul_assoc, mul_comm, mul_left_comm, mul_right_comm, mul-pos, mul-le-mul_right, mul-le-mul_left, mul-lt-mul_of_pos_right, lt_of_mul-lt-mul_right, le_antisymm}
use native.Mathlib.Omega.{arith}
use lib.Dec.{lit≤}
use lib.Pow.{pow_pos, pow-add, pow_mono}
use Rattle.rounding.specs.RoundToOdd.{RoundsToOdd}
use Rattle.fused.specs.RoundToOdd.{RoundsWideToOdd}
use Rattle.fused.specs.Wide.{LeadingWord}
use Rattle.rounding.proofs.Naturals.{lt_or_ge}
use Rattle.fused.proofs.RoundToOdd.{to_odd_again, to_odd_scale, to_odd_unscale}

-- ---- y is n / d rounded to odd, and far below x where n / d is not whole
abbrev pub FarBelow : ℕ → ℕ → ℕ → ℕ → Type 0
FarBelow x y n d = (y * d ≡ n) ⊎ ((y % 2 ≡ 1) × (n < y * d + d) × (y * d < n + d) × (y + 2 ^ 64 ≤ x))

-- a multiple of d is met exactly
exact : (y n d k : ℕ) → n ≡ k * d → n < y * d + d → y * d < n + d → y * d ≡ n
exact y n d k e a b =
    ap (λ (x : ℕ). x * d) (le_antisymm (low y k (lt_of_mul-lt-mul_right d (subst (λ (x : ℕ). y * d < x) (ap (λ (x : ℕ). x + d) e ∙ sym (suc-mul k d)) b))) (low k y (lt_of_mul-lt-mul_right d (subst (λ (x : ℕ). x < suc y * d) e (subst (λ (x : ℕ). n < x) (sym (suc-mul y d)) a)))))
    ∙ sym e
  where
    low : (a b : ℕ) → a < suc b → a ≤ b
    low a b h = omega arith

-- Y is a multiple of 16 below 2 ^ 127, so it loses nothing to a shift by 4 or less, and after a longer one it is below 2 ^ 122
pub far_below : (X Y y d : ℕ) → Y % 16 ≡ 0 → Y < 2 ^ 127 → (0 < d → 2 ^ 124 ≤ X) → RoundsToOdd y Y (2 ^ d) → FarBelow X y Y (2 ^ d)
far_below X Y y d e H L (inl p) = inl p
far_below X Y y d e H L (inr h) = go (lt_or_ge d 5)
  where
    join : (d : ℕ) → d < 5 → 4 - d + d ≡ 4
    join d l = omega arith

    whole : (Y q : ℕ) → q ≡ Y / 16 → Y % 16 ≡ 0 → Y ≡ q * 16
    whole Y q a b = omega arith

    multiple : d < 5 → Y ≡ Y / 16 * 2 ^ (4 - d) * 2 ^ d
    multiple l = whole Y (Y / 16) refl e ∙ ap (λ (x : ℕ). Y / 16 * x) (ap (λ (x : ℕ). 2 ^ x) (sym (join d l)) ∙ pow-add 2 (4 - d) d) ∙ sym (mul_assoc (Y / 16) (2 ^ (4 - d)) (2 ^ d))

    low : (a b : ℕ) → a < suc b → a ≤ b
    low a b h = omega arith

    small : 5 ≤ d → y ≤ 2 ^ 122
    small l = low y (2 ^ 122) (lt_of_mul-lt-mul_right (2 ^ d)
        (lt_of_lt_of_le h.2 (subst (λ (x : ℕ). Y + 2 ^ d ≤ x) (sym (suc-mul (2 ^ 122) (2 ^ d))) (plus Y (2 ^ 122 * 2 ^ d) (2 ^ d) (le_trans (le_of_lt H) (mul-le-mul_left (2 ^ 122) (pow_mono l)))))))
      where
        plus : (a b c : ℕ) → a ≤ b → a + c ≤ b + c
        plus a b c p = omega arith

    pos : (d : ℕ) → 5 ≤ d → 0 < d
    pos d l = omega arith

    room : (a b : ℕ) → a ≤ b → a + 2 ^ 64 ≤ b + 2 ^ 64
    room a b p = omega arith

    go : (d < 5) ⊎ (5 ≤ d) → FarBelow X y Y (2 ^ d)
    go (inl l) = inl (exact y Y (2 ^ d) (Y / 16 * 2 ^ (4 - d)) (multiple l) h.1 h.2)
    go (inr l) = inr (h.0, h.1, h.2, le_trans (room y (2 ^ 122) (small l)) (le_trans (lit≤ tt) (L (pos d l))))

far_below_scale : (x y n d c : ℕ) → 0 < c → FarBelow x y n d → FarBelow x y (n * c) (d * c)
far_below_scale x y n d c C (inl e) = inl (sym (mul_assoc y d c) ∙ ap (λ (z : ℕ). z * c) e)
far_below_scale x y n d c C (inr h) = inr (
  h.0,
  subst (λ (z : ℕ). n * c < z) (add-mul (y * d) d c ∙ ap (λ (z : ℕ). z + d * c) (mul_assoc y d c)) (mul-lt-mul_of_pos_right h.1 C),
  subst (λ (z : ℕ). z < n * c + d * c) (mul_assoc y d c) (subst (λ (z : ℕ). y * d * c < z) (add-mul n d c) (mul-lt-mul_of_pos_right h.2 C)),
  h.3,
)

-- at the exponent e of x: y, shifted down by k
pub aligned : (X Y y k e : ℕ) → k ≤ e → Y % 16 ≡ 0 → Y < 2 ^ 127 → (0 < k → 2 ^ 124 ≤ X) → RoundsToOdd y Y (2 ^ k) → FarBelow X y (Y * 2 ^ (e - k)) (2 ^ e)
aligned X Y y k e K a b c s =
    subst (λ (z : ℕ). FarBelow X y (Y * 2 ^ (e - k)) z) (sym (pow-add 2 k (e - k)) ∙ ap (λ (z : ℕ). 2 ^ z) (join k e K))
    (far_below_scale X y Y (2 ^ k) (2 ^ (e - k)) (pow_pos (e - k)) (far_below X Y y k a b c s))
  where
    join : (k e : ℕ) → k ≤ e → k + (e - k) ≡ e
    join k e h = omega arith

-- ---- the sum and the difference
module _ (x y n d : ℕ) (D : 0 < d) (E : x % 16 ≡ 0) where
  even : x % 2 ≡ 0
  even = go x E
    where
      go : (x : ℕ) → x % 16 ≡ 0 → x % 2 ≡ 0
      go x e = omega arith

  pub wide_to_odd_sum : FarBelow x y n d → RoundsWideToOdd (x + y) (x * d + n) d
  wide_to_odd_sum (inl e) = inl (add-mul x y d ∙ ap (λ (z : ℕ). x * d + z) e)
  wide_to_odd_sum (inr h) = inr (
    odd y even h.0,
    subst (λ (z : ℕ). x * d + n < z + d) (sym (add-mul x y d)) (first (x * d) (y * d) h.1),
    subst (λ (z : ℕ). z < x * d + n + d) (sym (add-mul x y d)) (second (x * d) (y * d) h.2),
    le_trans (above y (2 ^ 64)) (le_trans h.3 (most x y)),
  )
    where
      odd : (y : ℕ) → x % 2 ≡ 0 → y % 2 ≡ 1 → (x + y) % 2 ≡ 1
      odd y p q = omega arith

      first : (a b : ℕ) → n < b + d → a + n < a + b + d
      first a b p = omega arith

      second : (a b : ℕ) → b < n + d → a + b < a + n + d
      second a b p = omega arith

      above : (a b : ℕ) → b ≤ a + b
      above a b = omega arith

      most : (a b : ℕ) → a ≤ a + b
      most a b = omega arith

  back : y ≤ x → (x - y) * d + y * d ≡ x * d
  back l = sym (add-mul (x - y) y d) ∙ ap (λ (z : ℕ). z * d) (join x y l)
    where
      join : (x y : ℕ) → y ≤ x → x - y + y ≡ x
      join x y h = omega arith

  pub wide_to_odd_difference : y ≤ x → FarBelow x y n d → (n ≤ x * d) × RoundsWideToOdd (x - y) (x * d - n) d
  wide_to_odd_difference l (inl e) = go (x * d) (y * d) ((x - y) * d) (back l) e
    where
      go : (a b c : ℕ) → c + b ≡ a → b ≡ n → (n ≤ a) × ((c ≡ a - n) ⊎ ((((x - y) % 2 ≡ 1) × (a - n < c + d) × (c < a - n + d) × (2 ^ 64 ≤ x - y))))
      go a b c p q = (under a b c p q, inl (is a b c p q))
        where
          under : (a b c : ℕ) → c + b ≡ a → b ≡ n → n ≤ a
          under a b c p q = omega arith

          is : (a b c : ℕ) → c + b ≡ a → b ≡ n → c ≡ a - n
          is a b c p q = omega arith
  wide_to_odd_difference l (inr h) =
      let w : y * d + d ≤ x * d = le_trans (le_of_eq (sym (suc-mul y d))) (mul-le-mul_right d (next y x h.3)) in (
        le_of_lt (lt_of_lt_of_le h.1 w),
        inr (
          odd x y even h.0 l,
          first (x * d) (y * d) ((x - y) * d) (back l) h.2 (le_of_lt (lt_of_lt_of_le h.1 w)),
          second (x * d) (y * d) ((x - y) * d) (back l) h.1 (le_of_lt (lt_of_lt_of_le h.1 w)),
          left x y h.3,
        ),
      )
    where
      next : (y x : ℕ) → y + 2 ^ 64 ≤ x → suc y ≤ x
      next y x p = omega arith

      odd : (x y : ℕ) → x % 2 ≡ 0 → y % 2 ≡ 1 → y ≤ x → (x - y) % 2 ≡ 1
      odd x y p q r = omega arith

      first : (a b c : ℕ) → c + b ≡ a → b < n + d → n ≤ a → a - n < c + d
      first a b c p q r = omega arith

      second : (a b c : ℕ) → c + b ≡ a → n < b + d → n ≤ a → c < a - n + d
      second a b c p q r = omega arith

      left : (x y : ℕ) → y + 2 ^ 64 ≤ x → 2 ^ 64 ≤ x - y
      left x y p = omega arith

  pub wide_to_odd_reversed : x < y → FarBelow x y n d → (x * d < n) × RoundsWideToOdd (y - x) (n - x * d) d
  wide_to_odd_reversed l (inr h) = absurd (no x y l h.3)
    where
      no : (x y : ℕ) → x < y → y + 2 ^ 64 ≤ x → ⊥
      no x y p q = omega arith
  wide_to_odd_reversed l (inl e) =
      let w : x * d + d ≤ y * d = le_trans (le_of_eq (sym (suc-mul x d))) (mul-le-mul_right d l) in
      (under (x * d) (y * d) w e, inl (is (x * d) (y * d) ((y - x) * d) (sym (add-mul (y - x) x d) ∙ ap (λ (z : ℕ). z * d) (join x y l)) e))
    where
      join : (x y : ℕ) → x < y → y - x + x ≡ y
      join x y h = omega arith

      under : (a b : ℕ) → a + d ≤ b → b ≡ n → a < n
      under a b p q = omega arith

      is : (a b c : ℕ) → c + a ≡ b → b ≡ n → c ≡ n - a
      is a b c p q = omega arith

-- ---- zero, and more than zero
pub wide_to_odd_zero : (n d : ℕ) → RoundsWideToOdd 0 n d → n ≡ 0
wide_to_odd_zero n d (inl e) = sym e ∙ zero-mul d
wide_to_odd_zero n d (inr h) = absurd (no h.0)
  where
    no : 0 % 2 ≡ 1 → ⊥
    no e = omega arith

pub wide_to_odd_positive : (w n d : ℕ) → 0 < d → 0 < w → RoundsWideToOdd w n d → 0 < n
wide_to_odd_positive w n d D W (inl e) = subst (λ (z : ℕ). 0 < z) e (mul-pos W D)
wide_to_odd_positive w n d D W (inr h) =
    go (w * d) (le_trans (le_of_eq (sym (suc-mul 1 d))) (mul-le-mul_right d (two w h.3))) h.2
  where
    two : (w : ℕ) → 2 ^ 64 ≤ w → 2 ≤ w
    two w p = omega arith

    go : (a : ℕ) → 1 * d + d ≤ a → a < n + d → 0 < n
    go a p q = omega arith

-- ---- shifted up, and its upper word rounded to odd
pub wide_to_odd_leading : (w n e m u : ℕ) → RoundsWideToOdd w n (2 ^ e) → LeadingWord w m u → RoundsToOdd m (n * 2 ^ u) (2 ^ e * 2 ^ 64)
wide_to_odd_leading w n e m u (inl p) r =
    subst (λ (z : ℕ). RoundsToOdd m z (2 ^ e * 2 ^ 64)) (mul_right_comm w (2 ^ u) (2 ^ e) ∙ ap (λ (z : ℕ). z * 2 ^ u) p)
    (subst (λ (z : ℕ). RoundsToOdd m (w * 2 ^ u * 2 ^ e) z) (mul_comm (2 ^ 64) (2 ^ e)) (to_odd_scale m (w * 2 ^ u) (2 ^ 64) (2 ^ e) (pow_pos e) r.rounds))
wide_to_odd_leading w n e m u (inr h) r =
    subst (λ (z : ℕ). RoundsToOdd m (n * 2 ^ u) z) (mul_assoc (2 ^ e) (2 ^ (64 - u)) (2 ^ u) ∙ ap (λ (z : ℕ). 2 ^ e * z) (sym width))
    (to_odd_scale m n (2 ^ e * 2 ^ (64 - u)) (2 ^ u) (pow_pos u)
    (to_odd_again m w n (2 ^ e) (64 - u) (pow_pos e) (inr (h.0, h.1, h.2))
    (to_odd_unscale m w (2 ^ (64 - u)) (2 ^ u) (pow_pos u) (subst (λ (z : ℕ). RoundsToOdd m (w * 2 ^ u) z) width r.rounds))))
  where
    under : u < 64
    under = lt_of_not-le (λ (g : 64 ≤ u). lt_irrefl (2 ^ 128) (lt_of_le_of_lt (le_trans (mul-le-mul_right (2 ^ 64) h.3) (mul-le-mul_left w (pow_mono g))) r.room))

    width : 2 ^ 64 ≡ 2 ^ (64 - u) * 2 ^ u
    width = ap (λ (z : ℕ). 2 ^ z) (join u under) ∙ pow-add 2 (64 - u) u
      where
        join : (u : ℕ) → u < 64 → 64 ≡ 64 - u + u
        join u l = omega arith

-- in units of the smallest value: l + k is the exponent that n is counted from
pub to_odd_in_units : (n m e u l k : ℕ) → RoundsToOdd m (n * 2 ^ u) (2 ^ e * 2 ^ 64) → RoundsToOdd m (n * 2 ^ l * 2 ^ (u + k)) (2 ^ (l + k) * 2 ^ (e + 64))
to_odd_in_units n m e u l k s =
    subst (λ (z : ℕ). RoundsToOdd m z (2 ^ (l + k) * 2 ^ (e + 64))) top
    (subst (λ (z : ℕ). RoundsToOdd m (n * 2 ^ u * 2 ^ (l + k)) z) bottom (to_odd_scale m (n * 2 ^ u) (2 ^ e * 2 ^ 64) (2 ^ (l + k)) (pow_pos (l + k)) s))
  where
    top : n * 2 ^ u * 2 ^ (l + k) ≡ n * 2 ^ l * 2 ^ (u + k)
    top = simp (pow-add, mul_assoc, mul_left_comm)

    bottom : 2 ^ e * 2 ^ 64 * 2 ^ (l + k) ≡ 2 ^ (l + k) * 2 ^ (e + 64)
    bottom = mul_comm (2 ^ e * 2 ^ 64) (2 ^ (l + k)) ∙ ap (λ (z : ℕ). 2 ^ (l + k) * z) (sym (pow-add 2 e 64))
