-- The rounding theorem, for both formats together: where a word m with its top bit set is a fraction rounded to odd, the sign and `packed` of m are the pattern of the fraction rounded to nearest.
-- Every operation that rounds cites `encodes_rounded`: the conversions, and the fused operation of the crate `fused`.
-- Assumes nothing.
use Rattle.std.proofs.Common.{◌≡◌, ℕ, suc, ◌+◌, ◌-◌, ◌*◌, ◌/◌, ◌%◌, ◌^◌, ◌<◌, ◌≤◌, min, max, Bool, true, false, cond, not, T, ltb, ◌⊎◌, sym, refl, ap, ◌∙◌, subst, inl, inr, zero-le, le_trans, le_of_eq, le_refl, lt_of_lt_of_le, lt_of_le_of_lt, mul-le-mul_right, mod-eq_of_lt, mul_assoc, suc-mul, mul_comm, div-lt_iff_lt-mul, lt_of_mul-lt-mul_right, mul-pos, one-mul, le-div_iff_mul-le, zero-add, zero-mul, mul-one, mul_right_comm, le_of_mul-le-mul_right, mul_left_comm, arith, lit≤, pow_pos, pow_mono, pow-add}
use native.Mathlib.Nat.{add-mod_left, div-eq_of_lt, min-le_right, zero-min, zero-sub}
use lib.Ieee.{inf, Format, binary32, binary64, prec, low, size, round, hid, ones, top, to_bits, of_bits, nan_bits}
use lib.Ieee.Digits.{size-le}
use lib.Ieee.Fits.{round-fits, inf-fits}
use lib.Ieee.Bits.{of_bits-to_bits, nan_bits_above}
use lib.Ieee.Nearest.{closest, closest_same}
use lib.Arith.{le→nltb}
use Rattle.rounding.specs.RoundToOdd.{RoundsToOdd}
use Rattle.rounding.specs.Packed.{packed, Encodes}
use Rattle.rounding.proofs.Naturals.{lt_or_ge}
use Rattle.rounding.proofs.nearest.HalfUnit.{nearest_below_half}
use Rattle.rounding.proofs.RoundToOdd.{nearest_of_to_odd}
use Rattle.rounding.proofs.nearest.Patterns.{round_bits, rounded_magnitude, size_exact, to_bits_inf}

-- ---- what a number m of 64 digits that is n / d rounded to odd says of n / d
range_lo : (m n d : ℕ) → 2 ^ 63 ≤ m → RoundsToOdd m n d → 2 ^ 63 * d ≤ n
range_lo m n d L (inl e) = subst (λ (x : ℕ). 2 ^ 63 * d ≤ x) e (mul-le-mul_right d L)
range_lo m n d L (inr h) = go (2 ^ 63 * d) (m * d) (subst (λ (x : ℕ). x ≤ m * d) (suc-mul (2 ^ 63) d) (mul-le-mul_right d (above m L h.0))) h.2
  where
    above : (m : ℕ) → 2 ^ 63 ≤ m → m % 2 ≡ 1 → suc (2 ^ 63) ≤ m
    above m a b = omega arith

    go : (x y : ℕ) → x + d ≤ y → y < n + d → x ≤ n
    go x y a b = omega arith

range_hi : (m n d : ℕ) → 0 < d → m < 2 ^ 64 → RoundsToOdd m n d → n < 2 ^ 64 * d
range_hi m n d D H s = lt_of_lt_of_le (go s) (subst (λ (x : ℕ). x ≤ 2 ^ 64 * d) (suc-mul m d) (mul-le-mul_right d H))
  where
    grows : (x : ℕ) → x ≡ n → n < x + d
    grows x e = omega arith

    go : RoundsToOdd m n d → n < m * d + d
    go (inl e) = grows (m * d) e
    go (inr h) = h.1

-- ---- the digits of the whole part of n / den, where n * 2 ^ b is from 2 ^ 63 up to 2 ^ 64 times den * 2 ^ x
moved : (j den x : ℕ) → 2 ^ j * (den * 2 ^ x) ≡ 2 ^ (j + x) * den
moved j den x = mul_left_comm (2 ^ j) den (2 ^ x) ∙ mul_comm den (2 ^ j * 2 ^ x) ∙ ap (λ (y : ℕ). y * den) (sym (pow-add 2 j x))

shifted : (t b j x den : ℕ) → t + b ≡ j + x → 2 ^ t * den * 2 ^ b ≡ 2 ^ j * (den * 2 ^ x)
shifted t b j x den e = mul_right_comm (2 ^ t) den (2 ^ b) ∙ ap (λ (y : ℕ). y * den) (sym (pow-add 2 t b) ∙ ap (λ (y : ℕ). 2 ^ y) e) ∙ sym (moved j den x)

module _ (n den x b : ℕ) (D : 0 < den) (lo : 2 ^ 63 * (den * 2 ^ x) ≤ n * 2 ^ b) (hi : n * 2 ^ b < 2 ^ 64 * (den * 2 ^ x)) where
  size_none : 64 + x ≤ b → size (n / den) ≤ 0
  size_none g =
      size-le (n / den) 0
      ((div-lt_iff_lt-mul D).1
      (lt_of_mul-lt-mul_right (2 ^ b)
      (lt_of_lt_of_le hi (le_trans (le_of_eq (moved 64 den x)) (le_trans (mul-le-mul_right den (pow_mono g)) (le_of_eq (mul_comm (2 ^ b) den ∙ ap (λ (y : ℕ). y * 2 ^ b) (sym (one-mul den)))))))))

  size_some : b < 64 + x → size (n / den) ≡ suc (63 + x - b)
  size_some g =
      size_exact (63 + x - b) (n / den)
      ((le-div_iff_mul-le D).1 (le_of_mul-le-mul_right (le_trans (le_of_eq (shifted (63 + x - b) b 63 x den (there b x g))) lo) (pow_pos b)))
      ((div-lt_iff_lt-mul D).1 (lt_of_mul-lt-mul_right (2 ^ b) (lt_of_lt_of_le hi (le_of_eq (sym (shifted (suc (63 + x - b)) b 64 x den (next b x g)))))))
    where
      there : (b x : ℕ) → b < 64 + x → 63 + x - b + b ≡ 63 + x
      there b x g = omega arith

      next : (b x : ℕ) → b < 64 + x → suc (63 + x - b) + b ≡ 64 + x
      next b x g = omega arith

  drop_is : (p : ℕ) → size (n / den) - p ≡ 64 + x - (b + p)
  drop_is p = go (lt_or_ge b (64 + x))
    where
      some : (z : ℕ) → z ≡ suc (63 + x - b) → b < 64 + x → z - p ≡ 64 + x - (b + p)
      some z e g = omega arith

      none : (z : ℕ) → z ≤ 0 → 64 + x ≤ b → z - p ≡ 64 + x - (b + p)
      none z e g = omega arith

      go : (b < 64 + x) ⊎ (64 + x ≤ b) → size (n / den) - p ≡ 64 + x - (b + p)
      go (inl g) = some (size (n / den)) (size_some g) g
      go (inr g) = none (size (n / den)) (size_none g) g

pub prec_le_62 : (f : Format) → prec f ≤ 62
prec_le_62 binary32 = lit≤ tt
prec_le_62 binary64 = lit≤ tt

-- ---- m, of 64 digits, is num / den smallest values times 2 ^ b / 2 ^ x, rounded to odd
module _ (f : Format) (s : Bool) (num den m x b : ℕ) (D : 0 < den) (L : 2 ^ 63 ≤ m) (H : m < 2 ^ 64) (S : RoundsToOdd m (num * 2 ^ low f * 2 ^ b) (den * 2 ^ x)) where
  abbrev n : ℕ
  n = num * 2 ^ low f

  abbrev K : ℕ
  K = 64 + x - (b + prec f)

  abbrev d : ℕ
  d = max (64 - prec f) (b - x)

  scale_pos : 0 < den * 2 ^ x
  scale_pos = mul-pos D (pow_pos x)

  drop : size (n / den) - prec f ≡ K
  drop = drop_is n den x b D (range_lo m (n * 2 ^ b) (den * 2 ^ x) L S) (range_hi m (n * 2 ^ b) (den * 2 ^ x) scale_pos H S) (prec f)

  balance : (p : ℕ) → p ≤ 62 → x + max (64 - p) (b - x) ≡ b + (64 + x - (b + p))
  balance p g = omega arith

  two_more : (p : ℕ) → p ≤ 62 → 2 ≤ max (64 - p) (b - x)
  two_more p g = omega arith

  same : n * (den * 2 ^ x * 2 ^ d) ≡ n * 2 ^ b * (den * 2 ^ K)
  same =
      ap (λ (y : ℕ). n * y) (mul_assoc den (2 ^ x) (2 ^ d) ∙ ap (λ (y : ℕ). den * y) (sym (pow-add 2 x d) ∙ ap (λ (y : ℕ). 2 ^ y) (balance (prec f) (prec_le_62 f)) ∙ pow-add 2 b K))
      ∙ regroup n den (2 ^ b) (2 ^ K)
    where
      regroup : (n c u v : ℕ) → n * (c * (u * v)) ≡ n * u * (c * v)
      regroup n c u v = simp (mul_assoc, mul_left_comm)

  kept : closest n (den * 2 ^ K) ≡ closest m (2 ^ d)
  kept =
      closest_same n (den * 2 ^ K) (n * 2 ^ b) (den * 2 ^ x * 2 ^ d) (mul-pos D (pow_pos K)) (mul-pos scale_pos (pow_pos d)) same
      ∙ nearest_of_to_odd m (n * 2 ^ b) (den * 2 ^ x) d scale_pos (two_more (prec f) (prec_le_62 f)) S

  pub packed_bits : to_bits f (round f s num den) ≡ cond s (top f) 0 + packed (prec f) (ones f) m x b
  unfolding packed
  packed_bits =
      round_bits f s num den
      ∙ ap (λ (y : ℕ). cond s (top f) 0 + y)
      (ap (λ (y : ℕ). min (y * hid f + closest n (den * 2 ^ y)) (ones f * hid f)) drop
      ∙ ap (λ (y : ℕ). min (K * hid f + y) (ones f * hid f)) kept)

  pub packed_is : of_bits f (cond s (top f) 0 + packed (prec f) (ones f) m x b) ≡ round f s num den
  packed_is = ap (of_bits f) (sym packed_bits) ∙ of_bits-to_bits f (round f s num den) (round-fits f s num den)

-- ---- a magnitude up to an infinity's, with a sign
module _ (f : Format) (s : Bool) (y : ℕ) (Y : y ≤ ones f * hid f) where
  abbrev word : ℕ
  word = cond s (top f) 0 + y

  under_top : ones f * hid f < top f
  under_top = subst (λ (x : ℕ). ones f * hid f < x) (sym (mul_comm (hid f) (suc (ones f)) ∙ suc-mul (ones f) (hid f))) (grows (ones f * hid f) (hid f) (pow_pos (prec f - 1)))
    where
      grows : (a b : ℕ) → 0 < b → a < a + b
      grows a b h = omega arith

  y_lt : y < top f
  y_lt = lt_of_le_of_lt Y under_top

  pub word_lt : word < 2 * top f
  word_lt = go s
    where
      with_sign : (t y : ℕ) → y < t → t + y < 2 * t
      with_sign t y h = omega arith

      without : (t y : ℕ) → y < t → 0 + y < 2 * t
      without t y h = omega arith

      go : (s : Bool) → cond s (top f) 0 + y < 2 * top f
      go true = with_sign (top f) y y_lt
      go false = without (top f) y y_lt

  word_mod : word % top f ≡ y
  word_mod = go s
    where
      go : (s : Bool) → (cond s (top f) 0 + y) % top f ≡ y
      go true = add-mod_left (top f) y ∙ mod-eq_of_lt y_lt
      go false = ap (λ (x : ℕ). x % top f) (zero-add y) ∙ mod-eq_of_lt y_lt

  pub word_number : T (not (nan_bits f word))
  word_number =
      subst (λ (b : Bool). T (not b)) (sym (nan_bits_above f word ∙ ap (λ (x : ℕ). ltb (ones f * hid f) x) word_mod)) (le→nltb (ones f * hid f) y Y)

pub packed_le : (p o m x b : ℕ) → packed p o m x b ≤ o * 2 ^ (p - 1)
unfolding packed
packed_le p o m x b = min-le_right ((64 + x - (b + p)) * 2 ^ (p - 1) + closest m (2 ^ max (64 - p) (b - x))) (o * 2 ^ (p - 1))

-- ---- THE ROUNDING THEOREM: what `pack` answers, with the sign, is the pattern of the fraction rounded to nearest
pub encodes_rounded : (f : Format) (s : Bool) (num den m x b : ℕ) → 0 < den → 2 ^ 63 ≤ m → m < 2 ^ 64 → RoundsToOdd m (num * 2 ^ low f * 2 ^ b) (den * 2 ^ x)
    → Encodes f (cond s (top f) 0 + packed (prec f) (ones f) m x b) (round f s num den)
encodes_rounded f s num den m x b D L H S =
    let y = packed (prec f) (ones f) m x b in
    let Y : y ≤ ones f * hid f = packed_le (prec f) (ones f) m x b in
    record { width = word_lt f s y Y; number = word_number f s y Y; reads = packed_is f s num den m x b D L H S }

-- ---- zero and the infinities
-- the rounded zero has the pattern of the sign alone
size_zero : size 0 ≡ 0
unfolding size
size_zero = refl

zero_bits : (f : Format) (n den : ℕ) → n ≡ 0 → 0 < den → rounded_magnitude f n den ≡ 0
zero_bits f n den e D =
    ap (λ (z : ℕ). rounded_magnitude f z den) e
    ∙ ap (λ (z : ℕ). at (size z - prec f)) (div-eq_of_lt D)
    ∙ ap (λ (z : ℕ). at (z - prec f)) size_zero
    ∙ ap (λ (z : ℕ). at z) (zero-sub (prec f))
    ∙ ap (λ (z : ℕ). min (0 * hid f + z) (ones f * hid f)) (nearest_below_half 0 (den * 2 ^ 0) (subst (λ (x : ℕ). 0 < x) (sym (mul-one den)) D))
    ∙ ap (λ (z : ℕ). min (z + 0) (ones f * hid f)) (zero-mul (hid f))
    ∙ zero-min (ones f * hid f)
  where
    at : ℕ → ℕ
    at k = min (k * hid f + closest 0 (den * 2 ^ k)) (ones f * hid f)

pub encodes_zero : (f : Format) (s : Bool) (num den : ℕ) → num ≡ 0 → 0 < den → Encodes f (cond s (top f) 0 + 0) (round f s num den)
encodes_zero f s num den e D =
    record {
      width = word_lt f s 0 zero-le;
      number = word_number f s 0 zero-le;
      reads =
          ap (of_bits f) (sym (round_bits f s num den ∙ ap (λ (y : ℕ). cond s (top f) 0 + y) (zero_bits f (num * 2 ^ low f) den (ap (λ (z : ℕ). z * 2 ^ low f) e ∙ zero-mul (2 ^ low f)) D)))
          ∙ of_bits-to_bits f (round f s num den) (round-fits f s num den);
    }

pub encodes_infinity : (f : Format) (s : Bool) → Encodes f (cond s (top f) 0 + ones f * hid f) (inf s)
encodes_infinity f s =
    record {
      width = word_lt f s (ones f * hid f) (le_refl (ones f * hid f));
      number = word_number f s (ones f * hid f) (le_refl (ones f * hid f));
      reads = ap (of_bits f) (sym (to_bits_inf f s)) ∙ of_bits-to_bits f (inf s) (inf-fits f s);
    }
