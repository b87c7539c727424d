-- Where the product of two floats is exact, one multiply and one add are the fused operation; and a product by 0, 1 or -1 is exact. Over the format.
-- Assumes nothing.
use mathlib.Core.Path.{◌≡◌, refl, sym, ap, ◌∙◌, subst}
use mathlib.Core.Bool.{Bool, ◌&&◌}
use Prim.Native.Nat.{ℕ, zero, suc, ◌+◌, ◌-◌, ◌*◌, ◌%◌, ◌^◌, ◌≤◌, ◌<◌}
use native.Mathlib.Nat.{lt_irrefl, lt_of_le_of_lt, lt_of_lt_of_le, lt_of_not-le, mul-one, one-mul, zero-mul, mul_assoc, mul_comm, mul_left_comm, mul_right_comm, mul-pos, mul-le-mul_left, mul-le-mul_right, mul-lt-mul_of_pos_right, lt_of_mul-lt-mul_right}
use native.Mathlib.Omega.{arith}
use lib.IntN.{ℤ, pos, negsuc}
use lib.Dec.{T, ltb, leb, eqb, ltb→lt, leb→le}
use lib.Pow.{pow_pos, pow-add, pow-lt}
use lib.Ieee.{Float, nan, inf, fin, Format, prec, emax, low, up, down, unlike, round, sum, add, mul, fits}
use lib.Ieee.Exact.{HasValue, round_exact}
use lib.Ieee.Fits.{and_l, and_r, down_pos}
use Rattle.fused.specs.Fma.{fma}
use Rattle.fused.proofs.multiply_add.Sums.{sum_same}

-- ---- an exact product
-- the fraction N / D with the sign s, plus z, rounded once
plus : Format → Bool → ℕ → ℕ → Float → Float
plus f s N D nan = nan
plus f s N D (inf u) = inf u
plus f s N D (fin u k g) = sum f s (N * down g) u (k * up g * D) (D * down g)

add_is_plus : (f : Format) (p z : Float) (s : Bool) (N D : ℕ) → 0 < D → HasValue p s N D → add f p z ≡ plus f s N D z
unfolding add plus
add_is_plus f nan z s N D P h = absurd h
add_is_plus f (inf t) z s N D P h = absurd h
add_is_plus f (fin t m e) nan s N D P h = refl
add_is_plus f (fin t m e) (inf u) s N D P h = refl
add_is_plus f (fin t m e) (fin u k g) s N D P h =
    ap (λ (b : Bool). sum f b (m * up e * down g) u (k * up g * down e) (down e * down g)) h.0
    ∙ sum_same f s (m * up e * down g) u (k * up g * down e) (down e * down g) (N * down g) (k * up g * D) (D * down g) (mul-pos (down_pos e) (down_pos g)) (mul-pos P (down_pos g))
    (cross (m * up e) (down e) N D (down g) h.1) (turn (k * up g) (down e) D (down g))
  where
    turn : (a b c d : ℕ) → a * b * (c * d) ≡ a * c * (b * d)
    turn a b c d = simp (mul_assoc, mul_left_comm)

    cross : (a b c d g : ℕ) → a * d ≡ c * b → a * g * (d * g) ≡ c * g * (b * g)
    cross a b c d g e = turn a g d g ∙ ap (λ (x : ℕ). x * (g * g)) e ∙ sym (turn c g b g)

-- two finite factors
abbrev Exact : Format → Bool → ℕ → ℤ → Bool → ℕ → ℤ → Type 0
Exact f s m e t n d = HasValue (round f (unlike s t) (m * up e * (n * up d)) (down e * down d)) (unlike s t) (m * up e * (n * up d)) (down e * down d)

exact_product : (f : Format) (s : Bool) (m : ℕ) (e : ℤ) (t : Bool) (n : ℕ) (d : ℤ) (z : Float) → Exact f s m e t n d → add f (mul f (fin s m e) (fin t n d)) z ≡ fma f (fin s m e) (fin t n d) z
unfolding mul fma plus
exact_product f s m e t n d z h = add_is_plus f (mul f (fin s m e) (fin t n d)) z (unlike s t) (m * up e * (n * up d)) (down e * down d) (mul-pos (down_pos e) (down_pos d)) h ∙ is z
  where
    is : (z : Float) → plus f (unlike s t) (m * up e * (n * up d)) (down e * down d) z ≡ fma f (fin s m e) (fin t n d) z
    is nan = refl
    is (inf u) = refl
    is (fin u k g) = refl

-- ---- a float that a format holds is m * 2 ^ j of its smallest values
record InUnits (f : Format) (m : ℕ) (e : ℤ) : Type 0 where
  shift : ℕ
  digits : m < 2 ^ prec f
  under : m * 2 ^ shift < 2 ^ (low f + suc (emax f))
  value : m * up e * 2 ^ low f ≡ m * 2 ^ shift * down e

rescaled : (e : ℤ) (l : ℕ) → down e ≤ 2 ^ l → (j : ℕ) × (up e * 2 ^ l ≡ 2 ^ j * down e)
rescaled (pos k) l h = (k + l, sym (pow-add 2 k l) ∙ sym (mul-one (2 ^ (k + l))))
rescaled (negsuc k) l h = (l - suc k, one-mul (2 ^ l) ∙ ap (λ (x : ℕ). 2 ^ x) (join l k reach) ∙ pow-add 2 (l - suc k) (suc k))
  where
    reach : suc k ≤ l
    reach = lt_of_not-le (λ (g : l ≤ k). lt_irrefl (2 ^ l) (lt_of_lt_of_le (pow-lt (next l k g)) h))
      where
        next : (l k : ℕ) → l ≤ k → l < suc k
        next l k g = omega arith

    join : (l k : ℕ) → suc k ≤ l → l ≡ l - suc k + suc k
    join l k g = omega arith

in_units : (f : Format) (s : Bool) (m : ℕ) (e : ℤ) → T (fits f (fin s m e)) → InUnits f m e
unfolding fits
in_units f s zero e h = record {
  shift = 0;
  digits = pow_pos (prec f);
  under = pow_pos (low f + suc (emax f));
  value = ap (λ (x : ℕ). x * 2 ^ low f) (zero-mul (up e)) ∙ zero-mul (2 ^ low f) ∙ sym (zero-mul (down e));
}
in_units f s (suc m) e h =
    let a : Bool = eqb (suc m % 2) 1 in
    let b : Bool = ltb (suc m) (2 ^ prec f) in
    let c : Bool = leb (down e) (2 ^ low f) in
    let d : Bool = ltb (suc m * up e) (2 ^ suc (emax f) * down e) in
    let j = rescaled e (low f) (leb→le (down e) (2 ^ low f) (and_r (a && b) c (and_l (a && b && c) d h))) in
    let v : suc m * up e * 2 ^ low f ≡ suc m * 2 ^ j.0 * down e = mul_assoc (suc m) (up e) (2 ^ low f) ∙ ap (λ (x : ℕ). suc m * x) j.1 ∙ sym (mul_assoc (suc m) (2 ^ j.0) (down e)) in
    record {
      shift = j.0;
      digits = ltb→lt (suc m) (2 ^ prec f) (and_r a b (and_l (a && b) c (and_l (a && b && c) d h)));
      under = lt_of_mul-lt-mul_right (down e) (subst (λ (x : ℕ). x < 2 ^ (low f + suc (emax f)) * down e) v (subst (λ (x : ℕ). suc m * up e * 2 ^ low f < x) (largest (low f) (suc (emax f)) (down e)) (mul-lt-mul_of_pos_right (ltb→lt (suc m * up e) (2 ^ suc (emax f) * down e) (and_r (a && b && c) d h)) (pow_pos (low f)))));
      value = v;
    }
  where
    largest : (l x y : ℕ) → 2 ^ x * y * 2 ^ l ≡ 2 ^ (l + x) * y
    largest l x y = simp (pow-add, mul_assoc, mul_comm, mul_left_comm)

-- ---- a product by a factor of the size a, which is 0 or 1
-- P / p is the float that the format holds, Q / q the factor
module _ (f : Format) (s : Bool) (P p Q q a : ℕ) (A : a ≤ 1) (p-pos : 0 < p) (q-pos : 0 < q) (unit : Q * 1 ≡ a * q) (m j : ℕ) (digits : m < 2 ^ prec f) (under : m * 2 ^ j < 2 ^ (low f + suc (emax f))) (value : P * 2 ^ low f ≡ m * 2 ^ j * p) where
  fewer : m * a ≤ m
  fewer = subst (λ (x : ℕ). m * a ≤ x) (mul-one m) (mul-le-mul_left m A)

  in_smallest : P * Q * 2 ^ low f ≡ m * a * 2 ^ j * (p * q)
  in_smallest = mul_right_comm P Q (2 ^ low f) ∙ (λ i. value i * (sym (mul-one Q) ∙ unit) i) ∙ turn m (2 ^ j) p a q
    where
      turn : (m u p a q : ℕ) → m * u * p * (a * q) ≡ m * a * u * (p * q)
      turn m u p a q = simp (mul_assoc, mul_left_comm)

  exact_by_unit : HasValue (round f s (P * Q) (p * q)) s (P * Q) (p * q)
  exact_by_unit = round_exact f s (P * Q) (p * q) (m * a) j (mul-pos p-pos q-pos) (lt_of_le_of_lt fewer digits) (lt_of_le_of_lt (mul-le-mul_right (2 ^ j) fewer) under) in_smallest

swapped : (f : Format) (s : Bool) (P p Q q : ℕ) → HasValue (round f s (P * Q) (p * q)) s (P * Q) (p * q) → HasValue (round f s (Q * P) (q * p)) s (Q * P) (q * p)
swapped f s P p Q q h = subst (λ (d : ℕ). HasValue (round f s (Q * P) d) s (Q * P) d) (mul_comm p q) (subst (λ (n : ℕ). HasValue (round f s n (p * q)) s n (p * q)) (mul_comm P Q) h)

-- ---- a factor whose value is 0, 1 or -1
pub record Unit (v : Float) : Type 0 where
  pub sign : Bool
  pub size : ℕ
  pub small : size ≤ 1
  pub value : HasValue v sign size 1

-- ---- the fast path of `mul_add`: y a unit or 0, and x
pub second_unit : (f : Format) (x y z : Float) → T (fits f x) → Unit y → add f (mul f x y) z ≡ fma f x y z
unfolding add mul fma
second_unit f nan y z F U = refl
second_unit f (inf s) y z F U = refl
second_unit f (fin s m e) y z F U = go y U
  where
    go : (y : Float) → Unit y → add f (mul f (fin s m e) y) z ≡ fma f (fin s m e) y z
    go nan u = absurd u.value
    go (inf t) u = absurd u.value
    go (fin t n d) u =
        let i = in_units f s m e F in
        exact_product f s m e t n d z (exact_by_unit f (unlike s t) (m * up e) (down e) (n * up d) (down d) u.size u.small (down_pos e) (down_pos d) u.value.1 m i.shift i.digits i.under i.value)

pub first_unit : (f : Format) (x y z : Float) → Unit x → T (fits f y) → add f (mul f x y) z ≡ fma f x y z
unfolding add mul fma
first_unit f x y z U F = go x U
  where
    go : (x : Float) → Unit x → add f (mul f x y) z ≡ fma f x y z
    go nan u = absurd u.value
    go (inf t) u = absurd u.value
    go (fin s m e) u = at y F
      where
        at : (y : Float) → T (fits f y) → add f (mul f (fin s m e) y) z ≡ fma f (fin s m e) y z
        at nan F = refl
        at (inf t) F = refl
        at (fin t n d) F =
            let i = in_units f t n d F in
            let P = n * up d in
            let Q = m * up e in
            exact_product f s m e t n d z (swapped f (unlike s t) P (down d) Q (down e) (exact_by_unit f (unlike s t) P (down d) Q (down e) u.size u.small (down_pos d) (down_pos e) u.value.1 n i.shift i.digits i.under i.value))
