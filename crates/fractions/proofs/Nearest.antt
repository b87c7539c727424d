-- THE NEAREST VALUE OF A FORMAT, for both formats together: it is half a unit off at most, and the unit is at most 2 ^ (1 − prec) of the fraction or, where that is smaller, the
-- format's smallest value. So a fraction a / c of magnitude at most B, for a B from 1 to 2 ^ 60, is B / 2 ^ prec off at most, and does not overflow.
-- Assumes nothing.
use mathlib.Core.Path.{◌≡◌, sym, ap, ◌∙◌, subst}
use mathlib.Core.Logic.{◌⊎◌, inl, inr}
use mathlib.Core.Bool.{not}
use Prim.Native.Nat.{ℕ, suc, ◌+◌, ◌-◌, ◌*◌, ◌/◌, ◌%◌, ◌^◌, ◌≤◌, ◌<◌, compare, Ordering}
use native.Mathlib.Nat.{lt_of_le_of_lt, mul_comm, mul_assoc, mul-le-mul_right, mul-lt-mul_of_pos_right, mul-pos, le_of_mul-le-mul_right, div-mul-le_self, div-add-mod', mod-lt}
use native.Mathlib.Omega.{arith}
use lib.Dec.{T, is_le, compare_is_eq, lit≤, lit<, leb→le, nleb→lt, eqb→eq}
use lib.Pow.{pow-add, pow_pos, pow_mono, pow-lt}
use lib.Ieee.{Format, binary32, binary64, prec, emax, low, size, nearest}
use lib.Ieee.Digits.{size_reaches}
use lib.Ieee.Nearest.{closest}
use lib.Ieee.Order.{drop, kept}
use lib.Ieee.Scale.{grid, overflow}
use Rattle.rounding.proofs.Naturals.{lt_or_ge}

-- ---- the nearest whole number to m / u is half of 1 off at most
abbrev Half : ℕ → ℕ → ℕ → Type 0
Half m u k = (k * u * 2 ≤ m * 2 + u) × (m * 2 ≤ k * u * 2 + u)

nearest_half : (m u q r : ℕ) (o : Ordering) → q * u + r ≡ m → (T (is_le o) → r * 2 ≤ u) → (T (not (is_le o)) → u < r * 2) → (T (compare_is_eq o) → r * 2 ≡ u) → r < u → Half m u (nearest q o)
nearest_half m u q r Ordering.lt p a b c l = let k = a tt in omega arith
nearest_half m u q r Ordering.eq p a b c l =
    let k = c tt in
    let z : q % 2 ≤ 1 = omega arith in
    let w : q % 2 * u ≤ 1 * u = mul-le-mul_right u z in
    omega arith
nearest_half m u q r Ordering.gt p a b c l = let k = b tt in omega arith

closest_half : (m u : ℕ) → 0 < u → Half m u (closest m u)
closest_half m u U = nearest_half m u (m / u) (m % u) (compare (m % u * 2) u) (div-add-mod' m u) (leb→le (m % u * 2) u) (nleb→lt (m % u * 2) u) (eqb→eq (m % u * 2) u) (mod-lt m U)

-- ---- in units of the format's smallest value
enough : (f : Format) → prec f ≤ low f
enough binary32 = lit≤ tt
enough binary64 = lit≤ tt

-- results below 2 ^ 61 do not overflow
room : (f : Format) → 61 < suc (emax f)
room binary32 = lit< tt
room binary64 = lit< tt

module _ (f : Format) (a c B : ℕ) (C : 0 < c) (B> : 1 ≤ B) (h : a ≤ B * c) where
  abbrev n : ℕ
  n = a * 2 ^ low f

  abbrev q : ℕ
  q = n / c

  abbrev K : ℕ
  K = drop (prec f) n c

  most_n : n ≤ B * 2 ^ low f * c
  most_n = let k : a * 2 ^ low f ≤ B * c * 2 ^ low f = mul-le-mul_right (2 ^ low f) h in omega arith

  -- the unit of the result
  unit_small : 2 ^ K * 2 ^ prec f * c ≤ B * 2 ^ low f * c * 2
  unit_small = by (lt_or_ge (prec f) (size q))
    where
      normal : (z p : ℕ) → p < z → z - p + p ≡ 1 + (z - 1)
      normal z p l = omega arith

      less : (z p : ℕ) → p < z → z - 1 < z
      less z p l = omega arith

      none : (z p : ℕ) → z ≤ p → z - p ≡ 0
      none z p l = omega arith

      by : (prec f < size q) ⊎ (size q ≤ prec f) → 2 ^ K * 2 ^ prec f * c ≤ B * 2 ^ low f * c * 2
      by (inl l) =
          let e : 2 ^ K * 2 ^ prec f ≡ 2 * 2 ^ (size q - 1) = sym (pow-add 2 K (prec f)) ∙ ap (λ (z : ℕ). 2 ^ z) (normal (size q) (prec f) l) ∙ pow-add 2 1 (size q - 1) in
          let r : 2 ^ (size q - 1) * c ≤ q * c = mul-le-mul_right c (size_reaches q (size q - 1) (less (size q) (prec f) l)) in
          let d : q * c ≤ n = div-mul-le_self n c in
          let k : 2 ^ K * 2 ^ prec f * c ≡ 2 * 2 ^ (size q - 1) * c = ap (λ (z : ℕ). z * c) e in
          finish (2 ^ K * 2 ^ prec f * c) (2 ^ (size q - 1)) (q * c) n k r d most_n
        where
          finish : (x y d m : ℕ) → x ≡ 2 * y * c → y * c ≤ d → d ≤ m → m ≤ B * 2 ^ low f * c → x ≤ B * 2 ^ low f * c * 2
          finish x y d m a b e g = omega arith
      by (inr l) =
          let e : 2 ^ K ≡ 1 = ap (λ (z : ℕ). 2 ^ z) (none (size q) (prec f) l) in
          let p : 2 ^ prec f * c ≤ 2 ^ low f * c = mul-le-mul_right c (pow_mono (enough f)) in
          let b : 1 * (2 ^ low f * c) ≤ B * (2 ^ low f * c) = mul-le-mul_right (2 ^ low f * c) B> in
          subst (λ (z : ℕ). z * 2 ^ prec f * c ≤ B * 2 ^ low f * c * 2) (sym e) (finish (2 ^ prec f) (2 ^ low f) p b)
        where
          finish : (x l : ℕ) → x * c ≤ l * c → 1 * (l * c) ≤ B * (l * c) → 1 * x * c ≤ B * l * c * 2
          finish x l a b = omega arith

  half : (grid f a c * c * 2 ≤ n * 2 + 2 ^ K * c) × (n * 2 ≤ grid f a c * c * 2 + 2 ^ K * c)
  half = let k = closest_half n (c * 2 ^ K) (mul-pos C (pow_pos K)) in regroup (kept (prec f) n c) (2 ^ K) k
    where
      regroup : (z w : ℕ) → (z * (c * w) * 2 ≤ n * 2 + c * w) × (n * 2 ≤ z * (c * w) * 2 + c * w) → (z * w * c * 2 ≤ n * 2 + w * c) × (n * 2 ≤ z * w * c * 2 + w * c)
      regroup z w k = (omega arith, omega arith)

  -- |grid − n / c| is at most B / 2 ^ prec of 2 ^ low units
  pub grid_error : (grid f a c * c * 2 ^ prec f ≤ n * 2 ^ prec f + B * 2 ^ low f * c) × (n * 2 ^ prec f ≤ grid f a c * c * 2 ^ prec f + B * 2 ^ low f * c)
  grid_error =
      let p = 2 ^ prec f in
      let x : grid f a c * c * 2 * p ≤ (n * 2 + 2 ^ K * c) * p = mul-le-mul_right p half.0 in
      let y : n * 2 * p ≤ (grid f a c * c * 2 + 2 ^ K * c) * p = mul-le-mul_right p half.1 in
      finish (grid f a c * c) n (2 ^ K * c) p (B * 2 ^ low f * c) x y (reorder (2 ^ K) p unit_small)
    where
      reorder : (w p : ℕ) {z : ℕ} → w * p * c ≤ z → w * c * p ≤ z
      reorder w p l = omega arith

      finish : (g n w p z : ℕ) → g * 2 * p ≤ (n * 2 + w) * p → n * 2 * p ≤ (g * 2 + w) * p → w * p ≤ z * 2 → (g * p ≤ n * p + z) × (n * p ≤ g * p + z)
      finish g n w p z a b d = (omega arith, omega arith)

  -- no overflow
  pub grid_under : B ≤ 2 ^ 60 → grid f a c < overflow f
  grid_under l =
      let g : grid f a c * c ≤ 2 ^ 61 * (2 ^ low f * c) = finish (grid f a c * c) n (2 ^ K * c) (B * 2 ^ low f * c) (2 ^ low f * c) half.0 most_n unit (reorder (mul-le-mul_right (2 ^ low f * c) l)) in
      let k : grid f a c ≤ 2 ^ 61 * 2 ^ low f = le_of_mul-le-mul_right (subst (λ (z : ℕ). grid f a c * c ≤ z) (sym (mul_assoc (2 ^ 61) (2 ^ low f) c)) g) C in
      lt_of_le_of_lt k (subst (λ (z : ℕ). 2 ^ 61 * 2 ^ low f < z) (sym (pow-add 2 (low f) (suc (emax f)))) (subst (λ (z : ℕ). 2 ^ 61 * 2 ^ low f < z) (mul_comm (2 ^ suc (emax f)) (2 ^ low f)) (mul-lt-mul_of_pos_right (pow-lt (room f)) (pow_pos (low f)))))
    where
      reorder : B * (2 ^ low f * c) ≤ 2 ^ 60 * (2 ^ low f * c) → B * 2 ^ low f * c ≤ 2 ^ 60 * (2 ^ low f * c)
      reorder l = omega arith

      -- 2 ^ prec is 1 at least
      unit : 2 ^ K * c ≤ B * 2 ^ low f * c * 2
      unit = let k : 1 * (2 ^ K * c) ≤ 2 ^ prec f * (2 ^ K * c) = mul-le-mul_right (2 ^ K * c) (pow_pos (prec f)) in regroup (2 ^ K) (2 ^ prec f) k unit_small
        where
          regroup : (w p : ℕ) {z : ℕ} → 1 * (w * c) ≤ p * (w * c) → w * p * c ≤ z → w * c ≤ z
          regroup w p k l = omega arith

      finish : (g m w z y : ℕ) → g * 2 ≤ m * 2 + w → m ≤ z → w ≤ z * 2 → z ≤ 2 ^ 60 * y → g ≤ 2 ^ 61 * y
      finish g m w z y a b d e = omega arith
