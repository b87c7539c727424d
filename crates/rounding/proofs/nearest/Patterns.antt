-- The pattern of a fraction rounded to nearest, over the format: the exponent's field and the kept digits, added as one number, up to the pattern of an infinity.
-- Assumes nothing.
use Rattle.std.proofs.Common.{◌≡◌, ℕ, zero, suc, ◌+◌, ◌-◌, ◌*◌, ◌/◌, ◌%◌, ◌^◌, ◌<◌, ◌≤◌, min, Bool, true, false, cond, not, T, ltb, ◌⊎◌, ℤ, pos, sym, refl, ap, ◌∙◌, subst, inl, inr, le_trans, le_of_eq, lt_of_lt_of_le, lt_of_le_of_lt, le_of_lt, add_assoc, lt_irrefl, mul-le-mul_right, mul_assoc, suc-mul, mul_comm, eq-zero-or-pos, le_antisymm, eq-or-lt_of_le, lt_of_not-le, le-div_iff_mul-le, mul-one, not-le_of_lt, div-one, mul-div_cancel, arith, ltb→lt, nltb→le, pow_pos, pow_mono, pow-add, shl_lt}
use Prim.Native.Nat.{compare}
use native.Mathlib.Nat.{div-div-eq-div-mul, min-eq_left, min-eq_right, pow-succ'}
use lib.Ieee.{fin, inf, Format, prec, emax, low, up, down, size, odd, units, round, hid, ones, top, to_bits}
use lib.Ieee.Digits.{odd_val, size-lt, size-le, size_reaches}
use lib.Ieee.Fits.{two, reach, two-le_pos, kept-lt, nearest-le, round_is, down_pos}
use lib.Ieee.Nearest.{closest, nearest-ge}
use lib.Ieee.Scale.{overflow}
use Rattle.rounding.proofs.Naturals.{lt_or_ge}

-- ---- the digits of a number
pow_lt_back : (i p : ℕ) → 2 ^ i < 2 ^ p → i < p
pow_lt_back i p h = lt_of_not-le (λ (g : p ≤ i). lt_irrefl (2 ^ i) (lt_of_lt_of_le h (pow_mono g)))

size_gt : (n j : ℕ) → 2 ^ j ≤ n → j < size n
size_gt n j h = lt_of_not-le (λ (g : size n ≤ j). not-le_of_lt (lt_of_lt_of_le (size-lt n) (pow_mono g)) h)

pub size_exact : (a n : ℕ) → 2 ^ a ≤ n → n < 2 ^ suc a → size n ≡ suc a
size_exact a n lo hi = le_antisymm (size-le n (suc a) hi) (size_gt n a lo)

-- ---- the bits of a finite value, by its size in units of the smallest value
abbrev fields_of : Format → ℕ → ℕ
fields_of f a = (size a - prec f) * hid f + a / 2 ^ (size a - prec f)

to_bits_fin : (f : Format) (s : Bool) (m : ℕ) (e : ℤ) (a : ℕ) → m * up e * 2 ^ low f ≡ a * down e → to_bits f (fin s m e) ≡ cond s (top f) 0 + fields_of f a
unfolding to_bits
to_bits_fin f s m e a h =
    ap (λ (x : ℕ). cond s (top f) 0 + (size x - prec f) * hid f + x / 2 ^ (size x - prec f)) (ap (λ (x : ℕ). x / down e) h ∙ mul-div_cancel a (down_pos e))
    ∙ add_assoc (cond s (top f) 0) ((size a - prec f) * hid f) (a / 2 ^ (size a - prec f))

to_bits_odd : (f : Format) (d : ℕ) (s : Bool) (q k : ℕ) → to_bits f (odd d s q k (low f)) ≡ cond s (top f) 0 + fields_of f (q * 2 ^ k)
unfolding odd
to_bits_odd f d s zero k = to_bits_fin f s 0 (pos 0) (0 * 2 ^ k) (odd_val d s zero k (low f))
to_bits_odd f d s (suc q) k = to_bits_fin f s _ _ (suc q * 2 ^ k) (odd_val d s (suc q) k (low f))

pub to_bits_inf : (f : Format) (s : Bool) → to_bits f (inf s) ≡ cond s (top f) 0 + ones f * hid f
unfolding to_bits
to_bits_inf f s = refl

-- the pattern without its sign of a smallest values, or of an infinity
abbrev magnitude_of : Format → ℕ → ℕ
magnitude_of f a = cond (ltb a (overflow f)) (fields_of f a) (ones f * hid f)

to_bits_units : (f : Format) (s : Bool) (q k : ℕ) → to_bits f (units f s q k) ≡ cond s (top f) 0 + magnitude_of f (q * 2 ^ k)
unfolding units
to_bits_units f s q k = go (ltb (q * 2 ^ k) (overflow f))
  where
    go : (b : Bool) → to_bits f (cond b (odd (suc (prec f)) s q k (low f)) (inf s)) ≡ cond s (top f) 0 + cond b (fields_of f (q * 2 ^ k)) (ones f * hid f)
    go true = to_bits_odd f (suc (prec f)) s q k
    go false = to_bits_inf f s

-- ---- the field and the digits are one number
twice_hid : (f : Format) → 2 ^ prec f ≡ 2 * hid f
twice_hid f = ap (λ (x : ℕ). 2 ^ x) (suc_pred (prec f) (two f)) ∙ pow-succ' 2 (prec f - 1)
  where
    suc_pred : (p : ℕ) → 2 ≤ p → p ≡ suc (p - 1)
    suc_pred p h = omega arith

by_test : (t : Bool) (a b c : ℕ) → (T t → a ≡ c) → (T (not t) → b ≡ c) → cond t a b ≡ c
by_test true a b c h k = h tt
by_test false a b c h k = k tt

module _ (f : Format) where
  abbrev p : ℕ
  p = prec f

  abbrev h : ℕ
  h = hid f

  magnitude_normal : (q k : ℕ) → h ≤ q → q < 2 ^ p → magnitude_of f (q * 2 ^ k) ≡ min (k * h + q) (ones f * h)
  magnitude_normal q k L H =
      let a = q * 2 ^ k in
      by_test (ltb a (overflow f)) (fields_of f a) (ones f * h) (min (k * h + q) (ones f * h))
      (λ t. is ∙ sym (min-eq_left (le_of_lt (under (ltb→lt a (overflow f) t)))))
      (λ t. sym (min-eq_right (over (nltb→le a (overflow f) t))))
    where
      lo : 2 ^ (p - 1 + k) ≤ q * 2 ^ k
      lo = subst (λ (y : ℕ). y ≤ q * 2 ^ k) (sym (pow-add 2 (p - 1) k)) (mul-le-mul_right (2 ^ k) L)

      hi : q * 2 ^ k < 2 ^ (p + k)
      hi = shl_lt p k H

      one_more : (p k : ℕ) → 2 ≤ p → p + k ≡ suc (p - 1 + k)
      one_more p k g = omega arith

      drops : (p k z : ℕ) → 2 ≤ p → z ≡ suc (p - 1 + k) → z - p ≡ k
      drops p k z g e = omega arith

      z : size (q * 2 ^ k) - p ≡ k
      z = drops p k (size (q * 2 ^ k)) (two f) (size_exact (p - 1 + k) (q * 2 ^ k) lo (subst (λ (y : ℕ). q * 2 ^ k < 2 ^ y) (one_more p k (two f)) hi))

      is : fields_of f (q * 2 ^ k) ≡ k * h + q
      is = ap (λ (y : ℕ). y * h + q * 2 ^ k / 2 ^ y) z ∙ ap (λ (y : ℕ). k * h + y) (mul-div_cancel q (pow_pos k))

      few : (p e k : ℕ) → 2 ≤ p → p - 1 + k < e + p - 2 + suc e → suc (suc k) ≤ 2 * e + 1
      few p e k g l = omega arith

      many : (p e k : ℕ) → 2 ≤ p → e + p - 2 + suc e < p + k → 2 * e + 1 ≤ suc k
      many p e k g l = omega arith

      fits : (k h q w o : ℕ) → w ≡ 2 * h → q < w → k + h + h ≤ o → k + q < o
      fits k h q w o e l g = omega arith

      under : q * 2 ^ k < overflow f → k * h + q < ones f * h
      under l =
          fits (k * h) h q (2 ^ p) (ones f * h) (twice_hid f) H
          (subst (λ (y : ℕ). y ≤ ones f * h) (suc-mul (suc k) h ∙ ap (λ (y : ℕ). y + h) (suc-mul k h))
          (mul-le-mul_right h (few p (emax f) k (two f) (pow_lt_back (p - 1 + k) (low f + suc (emax f)) (lt_of_le_of_lt lo l)))))

      reaches : (k h q o : ℕ) → h ≤ q → o ≤ k + h → o ≤ k + q
      reaches k h q o l g = omega arith

      over : overflow f ≤ q * 2 ^ k → ones f * h ≤ k * h + q
      over l =
          reaches (k * h) h q (ones f * h) L
          (subst (λ (y : ℕ). ones f * h ≤ y) (suc-mul k h) (mul-le-mul_right h (many p (emax f) k (two f) (pow_lt_back (low f + suc (emax f)) (p + k) (lt_of_le_of_lt l hi)))))

  -- below the smallest normal value
  magnitude_subnormal : (q : ℕ) → q < h → magnitude_of f (q * 2 ^ 0) ≡ min (0 * h + q) (ones f * h)
  magnitude_subnormal q l =
      ap (λ (y : ℕ). magnitude_of f y) (mul-one q)
      ∙ by_test (ltb q (overflow f)) (fields_of f q) (ones f * h) (min (0 * h + q) (ones f * h))
      (λ t. is ∙ sym (min-eq_left (plain h q (ones f * h) l once)))
      (λ t. absurd (not-le_of_lt small (nltb→le q (overflow f) t)))
    where
      none : (z p : ℕ) → z ≤ p - 1 → z - p ≡ 0
      none z p g = omega arith

      is : fields_of f q ≡ 0 * h + q
      is = ap (λ (y : ℕ). y * h + q / 2 ^ y) (none (size q) p (size-le q (p - 1) l)) ∙ ap (λ (y : ℕ). 0 * h + y) (div-one q)

      one_le : (e : ℕ) → 1 ≤ 2 * e + 1
      one_le e = omega arith

      once : 1 * h ≤ ones f * h
      once = mul-le-mul_right h (one_le (emax f))

      plain : (h q o : ℕ) → q < h → 1 * h ≤ o → 0 * h + q ≤ o
      plain h q o a b = omega arith

      room : (p e : ℕ) → 2 ≤ p → p ≤ suc e → p - 1 ≤ e + p - 2 + suc e
      room p e a b = omega arith

      small : q < overflow f
      small = lt_of_lt_of_le l (pow_mono (room p (emax f) (two f) (reach f)))

  magnitude_packed : (q k : ℕ) → q ≤ 2 ^ p → (k ≡ 0) ⊎ (h ≤ q) → magnitude_of f (q * 2 ^ k) ≡ min (k * h + q) (ones f * h)
  magnitude_packed q k Q C = go (lt_or_ge q h) (eq-or-lt_of_le Q) C
    where
      one_more : (k h : ℕ) → suc k * h + h ≡ k * h + 2 * h
      one_more k h = ap (λ (y : ℕ). y + h) (suc-mul k h) ∙ tidy (k * h) h
        where
          tidy : (x h : ℕ) → x + h + h ≡ x + 2 * h
          tidy x h = omega arith

      under_two : (h w : ℕ) → 0 < h → w ≡ 2 * h → h < w
      under_two h w a b = omega arith

      go : (q < h) ⊎ (h ≤ q) → (q ≡ 2 ^ p) ⊎ (q < 2 ^ p) → (k ≡ 0) ⊎ (h ≤ q) → magnitude_of f (q * 2 ^ k) ≡ min (k * h + q) (ones f * h)
      go (inl l) t (inl z) = subst (λ (y : ℕ). magnitude_of f (q * 2 ^ y) ≡ min (y * h + q) (ones f * h)) (sym z) (magnitude_subnormal q l)
      go (inl l) t (inr g) = absurd (not-le_of_lt l g)
      go (inr g) (inr t) c = magnitude_normal q k g t
      go (inr g) (inl e) c =
          ap (λ (y : ℕ). magnitude_of f y) (ap (λ (y : ℕ). y * 2 ^ k) (e ∙ twice_hid f ∙ mul_comm 2 h) ∙ mul_assoc h 2 (2 ^ k) ∙ ap (λ (y : ℕ). h * y) (sym (pow-succ' 2 k)))
          ∙ magnitude_normal h (suc k) (le_of_eq refl) (under_two h (2 ^ p) (pow_pos (p - 1)) (twice_hid f))
          ∙ ap (λ (y : ℕ). min y (ones f * h)) (one_more k h ∙ ap (λ (y : ℕ). k * h + y) (sym (twice_hid f) ∙ sym e))

-- ---- what `round` keeps has no more than prec digits, but for a carry, and no fewer where digits are dropped
kept_le : (p n den : ℕ) → closest n (den * 2 ^ (size (n / den) - p)) ≤ 2 ^ p
kept_le p n den =
    let u = den * 2 ^ (size (n / den) - p) in
    le_trans (nearest-le (n / u) (compare (n % u * 2) u)) (subst (λ (x : ℕ). x < 2 ^ p) (div-div-eq-div-mul n den (2 ^ (size (n / den) - p))) (kept-lt p (n / den)))

kept_ge : (p n den : ℕ) → 0 < p → 0 < size (n / den) - p → 2 ^ (p - 1) ≤ closest n (den * 2 ^ (size (n / den) - p))
kept_ge p n den P K =
    let k = size (n / den) - p in
    let u = den * 2 ^ k in
    let a : 2 ^ (p - 1) * 2 ^ k ≤ n / den = le_trans (le_of_eq (sym (pow-add 2 (p - 1) k))) (size_reaches (n / den) (p - 1 + k) (all (size (n / den)) p P K)) in
    le_trans (subst (λ (x : ℕ). 2 ^ (p - 1) ≤ x) (div-div-eq-div-mul n den (2 ^ k)) ((le-div_iff_mul-le (pow_pos k)).1 a)) (nearest-ge (n / u) (compare (n % u * 2) u))
  where
    all : (z p : ℕ) → 0 < p → 0 < z - p → p - 1 + (z - p) < z
    all z p P h = omega arith

low_or_kept : (p n den : ℕ) → 0 < p → (size (n / den) - p ≡ 0) ⊎ (2 ^ (p - 1) ≤ closest n (den * 2 ^ (size (n / den) - p)))
low_or_kept p n den P = go (eq-zero-or-pos (size (n / den) - p))
  where
    go : (size (n / den) - p ≡ 0) ⊎ (0 < size (n / den) - p) → (size (n / den) - p ≡ 0) ⊎ (2 ^ (p - 1) ≤ closest n (den * 2 ^ (size (n / den) - p)))
    go (inl z) = inl z
    go (inr g) = inr (kept_ge p n den P g)

-- ---- the bits of a rounded fraction, n being the numerator in units of the smallest value
abbrev pub rounded_magnitude : Format → ℕ → ℕ → ℕ
rounded_magnitude f n den = min ((size (n / den) - prec f) * hid f + closest n (den * 2 ^ (size (n / den) - prec f))) (ones f * hid f)

pub round_bits : (f : Format) (s : Bool) (num den : ℕ) → to_bits f (round f s num den) ≡ cond s (top f) 0 + rounded_magnitude f (num * 2 ^ low f) den
round_bits f s num den =
    let n = num * 2 ^ low f in
    ap (to_bits f) (round_is f s num den)
    ∙ to_bits_units f s (closest n (den * 2 ^ (size (n / den) - prec f))) (size (n / den) - prec f)
    ∙ ap (λ (y : ℕ). cond s (top f) 0 + y)
    (magnitude_packed f (closest n (den * 2 ^ (size (n / den) - prec f))) (size (n / den) - prec f) (kept_le (prec f) n den) (low_or_kept (prec f) n den (two-le_pos (prec f) (two f))))
