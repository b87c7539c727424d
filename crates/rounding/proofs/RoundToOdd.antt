-- Rounding to odd before rounding to nearest changes nothing: a number m that is n / d rounded to odd rounds, in units of four or more, as n / d itself does.
-- Nothing here is about floats.
-- Assumes nothing.
use Rattle.std.proofs.Common.{◌≡◌, ℕ, suc, ◌+◌, ◌-◌, ◌*◌, ◌/◌, ◌%◌, ◌^◌, ◌<◌, ◌≤◌, ◌⊎◌, sym, ap, ◌∙◌, subst, inl, inr, lt_of_lt_of_le, mul-le-mul_right, mod-lt, mul_assoc, suc-mul, mul_comm, add-mul, mul-pos, div-add-mod', mul_left_comm, arith, pow_pos, pow-add}
use Prim.Native.Nat.{compare, Ordering}
use lib.Arith.{digits_div, digits_mod}
use lib.Ieee.{nearest}
use lib.Ieee.Nearest.{closest, closest_same}
use Rattle.rounding.specs.RoundToOdd.{RoundsToOdd}
use Rattle.rounding.proofs.Naturals.{compare_gt, compare_lt, lt_or_ge}

-- an odd m, with the unit 4 * v: q units and a rest r, which is odd, so it is no half of the unit
module _ (m n d v : ℕ) (D : 0 < d) (vp : 0 < v) (o : m % 2 ≡ 1) (hi : n < m * d + d) (lo : m * d < n + d) where
  abbrev U : ℕ
  U = 4 * v

  abbrev q : ℕ
  q = m / U

  abbrev r : ℕ
  r = m % U

  U_pos : 0 < U
  U_pos = omega arith

  parts : q * U + r ≡ m
  parts = div-add-mod' m U

  r_lt : r < U
  r_lt = mod-lt m U_pos

  r_odd : r % 2 ≡ 1
  r_odd = go (q * v) (q * U) r (mul_left_comm q 4 v) parts
    where
      go : (x y z : ℕ) → y ≡ 4 * x → y + z ≡ m → z % 2 ≡ 1
      go x y z e p = omega arith

  -- in units of 1 / d
  whole : q * (d * U) + r * d ≡ m * d
  whole = ap (λ (x : ℕ). x + r * d) (ap (λ (x : ℕ). q * x) (mul_comm d U) ∙ sym (mul_assoc q U d)) ∙ sym (add-mul (q * U) r d) ∙ ap (λ (x : ℕ). x * d) parts

  rest : ℕ
  rest = n - q * (d * U)

  rest_hi : rest < r * d + d
  unfolding rest
  rest_hi = go (q * (d * U)) (r * d) (m * d) whole hi (one_le r r_odd)
    where
      one_le : (z : ℕ) → z % 2 ≡ 1 → 1 * d ≤ z * d
      one_le z e = mul-le-mul_right d (pos z e)
        where
          pos : (z : ℕ) → z % 2 ≡ 1 → 1 ≤ z
          pos z e = omega arith

      go : (X R M : ℕ) → X + R ≡ M → n < M + d → 1 * d ≤ R → n - X < R + d
      go X R M e h g = omega arith

  rest_lo : (r * d < rest + d) × (q * (d * U) + rest ≡ n)
  unfolding rest
  rest_lo = go (q * (d * U)) (r * d) (m * d) whole lo (one_le r r_odd)
    where
      one_le : (z : ℕ) → z % 2 ≡ 1 → 1 * d ≤ z * d
      one_le z e = mul-le-mul_right d (pos z e)
        where
          pos : (z : ℕ) → z % 2 ≡ 1 → 1 ≤ z
          pos z e = omega arith

      go : (X R M : ℕ) → X + R ≡ M → M < n + d → 1 * d ≤ R → (R < n - X + d) × (X + (n - X) ≡ n)
      go X R M e h g = omega arith

  rest_lt : rest < d * U
  rest_lt = lt_of_lt_of_le rest_hi (subst (λ (x : ℕ). r * d + d ≤ x) (mul_comm U d) (subst (λ (x : ℕ). x ≤ U * d) (suc-mul r d) (mul-le-mul_right d r_lt)))

  order : compare (rest * 2) (d * U) ≡ compare (r * 2) U
  order = go (lt_or_ge r (2 * v))
    where
      twice : (2 * v) * d * 2 ≡ d * U
      twice = simp (mul_assoc, mul_comm, mul_left_comm) (omega arith)

      under : (x y : ℕ) → x % 2 ≡ 1 → x < 2 * y → suc x ≤ 2 * y
      under x y e h = h

      over : (x y : ℕ) → x % 2 ≡ 1 → 2 * y ≤ x → suc (2 * y) ≤ x
      over x y e h = omega arith

      small : (R A t u : ℕ) → t < R + d → R + d ≤ A → A * 2 ≡ u → t * 2 < u
      small R A t u a b c = omega arith

      large : (R A t u : ℕ) → R < t + d → A + d ≤ R → A * 2 ≡ u → u < t * 2
      large R A t u a b c = omega arith

      less : (x y : ℕ) → x < 2 * y → x * 2 < 4 * y
      less x y h = omega arith

      more : (x y : ℕ) → suc (2 * y) ≤ x → 4 * y < x * 2
      more x y h = omega arith

      go : (r < 2 * v) ⊎ (2 * v ≤ r) → compare (rest * 2) (d * U) ≡ compare (r * 2) U
      go (inl h) =
          compare_lt (rest * 2) (d * U) (small (r * d) (2 * v * d) rest (d * U) rest_hi (subst (λ (x : ℕ). x ≤ 2 * v * d) (suc-mul r d) (mul-le-mul_right d h)) twice)
          ∙ sym (compare_lt (r * 2) U (less r v h))
      go (inr h) =
          let g : suc (2 * v) ≤ r = over r v r_odd h in
          compare_gt (rest * 2) (d * U) (large (r * d) (2 * v * d) rest (d * U) rest_lo.0 (subst (λ (x : ℕ). x ≤ r * d) (suc-mul (2 * v) d) (mul-le-mul_right d g)) twice)
          ∙ sym (compare_gt (r * 2) U (more r v g))

  nearest_of_odd : closest n (d * U) ≡ closest m U
  nearest_of_odd =
      ap (λ (x : ℕ). closest x (d * U)) (sym rest_lo.1)
      ∙ ap (λ (x : ℕ). nearest x (compare ((q * (d * U) + rest) % (d * U) * 2) (d * U))) (digits_div q rest_lt)
      ∙ ap (λ (x : ℕ). nearest q (compare (x * 2) (d * U))) (digits_mod q rest_lt)
      ∙ ap (λ (x : Ordering). nearest q x) order

four : (j : ℕ) → 2 ≤ j → 2 ^ j ≡ 4 * 2 ^ (j - 2)
four j h = ap (λ (x : ℕ). 2 ^ x) (split j h) ∙ pow-add 2 2 (j - 2)
  where
    split : (j : ℕ) → 2 ≤ j → j ≡ 2 + (j - 2)
    split j h = omega arith

pub nearest_of_to_odd : (m n d j : ℕ) → 0 < d → 2 ≤ j → RoundsToOdd m n d → closest n (d * 2 ^ j) ≡ closest m (2 ^ j)
nearest_of_to_odd m n d j D J (inl e) =
    closest_same n (d * 2 ^ j) m (2 ^ j) (mul-pos D (pow_pos j)) (pow_pos j) (ap (λ (x : ℕ). x * 2 ^ j) (sym e) ∙ mul_assoc m d (2 ^ j))
nearest_of_to_odd m n d j D J (inr h) =
    subst (λ (x : ℕ). closest n (d * x) ≡ closest m x) (sym (four j J)) (nearest_of_odd m n d (2 ^ (j - 2)) D (pow_pos (j - 2)) h.0 h.1 h.2)
