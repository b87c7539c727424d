-- Comparisons of floats that are integers give the integers' answers, whatever their size. Assumes nothing.
-- The one idea: two numbers that differ by c times what two others differ by compare as those do.
use mathlib.Core.Path.{◌≡◌, refl, sym, ap, ◌∙◌, subst}
use mathlib.Core.Bool.{Bool, true, false, not, ◌&&◌, ◌||◌, and-true}
use Prim.Native.Nat.{ℕ, ◌+◌, ◌*◌, ◌≤◌, ◌<◌}
use native.Mathlib.Nat.{lt_of_mul-lt-mul_right, mul-lt-mul_of_pos_right, eq_of_mul-eq-mul_right}
use native.Mathlib.Omega.{arith}
use lib.Dec.{T, ltb, leb, eqb, ltb→lt, lt→ltb, leb→le, le→leb, nltb→le, eqb→eq}
use lib.Ieee.{Float, nan, inf, fin, up, down, below, level, lt, eq, le}
use lib.Ieee.Fits.{eq→eqb, and_i, and_l, and_r}
use Rattle.exact.specs.Integer.{Integer, ◌≼◌, is_equal, is_at_most, is_below}
use Rattle.exact.specs.IsInteger.{IsQuotient, IsInteger}
use Rattle.exact.proofs.Floats.Rounding.{quotient_widen_right, quotient_widen_left}
use Rattle.exact.proofs.Floats.Sum.{downs_pos}

-- ---- tests on natural numbers
bool_ext : (b c : Bool) → (T b → T c) → (T c → T b) → b ≡ c
bool_ext true true f g = refl
bool_ext true false f g = absurd (f tt)
bool_ext false true f g = absurd (g tt)
bool_ext false false f g = refl

ltb_ext : (a b u v : ℕ) → (a < b → u < v) → (u < v → a < b) → ltb a b ≡ ltb u v
ltb_ext a b u v f g = bool_ext (ltb a b) (ltb u v) (λ h. lt→ltb u v (f (ltb→lt a b h))) (λ h. lt→ltb a b (g (ltb→lt u v h)))

eqb_ext : (a b u v : ℕ) → (a ≡ b → u ≡ v) → (u ≡ v → a ≡ b) → eqb a b ≡ eqb u v
eqb_ext a b u v f g =
    bool_ext (eqb a b) (eqb u v) (λ h. eq→eqb {a = u} {b = v} (f (eqb→eq a b h))) (λ h. eq→eqb {a = a} {b = b} (g (eqb→eq u v h)))

-- a − b is (u − v) c
module _ (a b u v c : ℕ) (c> : 0 < c) (h : a + v * c ≡ b + u * c) where
  ltb_scaled : ltb a b ≡ ltb u v
  ltb_scaled = ltb_ext a b u v
      (λ l. lt_of_mul-lt-mul_right c (let k : u * c < v * c = omega arith in k))
      (λ l. let k : u * c < v * c = mul-lt-mul_of_pos_right l c> in omega arith)

  eqb_scaled : eqb a b ≡ eqb u v
  eqb_scaled = eqb_ext a b u v
      (λ e. eq_of_mul-eq-mul_right c c> u v (omega arith))
      (λ e. let k : u * c ≡ v * c = ap (λ (x : ℕ). x * c) e in omega arith)

none_below : (a : ℕ) → false ≡ ltb a 0
none_below a = bool_ext false (ltb a 0) (λ h. absurd h) (λ h. let k : a < 0 = ltb→lt a 0 h in let z : ⊥ = omega arith in absurd z)

eqb_swap : (a b : ℕ) → eqb a b ≡ eqb b a
eqb_swap a b = eqb_ext a b b a sym sym

both_zero : (a b : ℕ) → (eqb a b && eqb a 0) ≡ eqb (a + b) 0
both_zero a b = bool_ext (eqb a b && eqb a 0) (eqb (a + b) 0) to from
  where
    to : T (eqb a b && eqb a 0) → T (eqb (a + b) 0)
    to h =
        let e = eqb→eq a b (and_l (eqb a b) (eqb a 0) h) in
        let z = eqb→eq a 0 (and_r (eqb a b) (eqb a 0) h) in
        eq→eqb {a = a + b} {b = 0} (omega arith)

    from : T (eqb (a + b) 0) → T (eqb a b && eqb a 0)
    from h =
        let e = eqb→eq (a + b) 0 h in
        and_i (eqb a b) (eqb a 0) (eq→eqb {a = a} {b = b} (omega arith)) (eq→eqb {a = a} {b = 0} (omega arith))

below_or_equal : (a b : ℕ) → (ltb a b || eqb a b) ≡ leb a b
below_or_equal a b = bool_ext (ltb a b || eqb a b) (leb a b) (to (ltb a b) (ltb→lt a b)) (λ h. from (leb→le a b h) (ltb a b) (nltb→le a b))
  where
    to : (z : Bool) → (T z → a < b) → T (z || eqb a b) → T (leb a b)
    to true f t = let k : a < b = f tt in le→leb a b (omega arith)
    to false f t = let k : a ≡ b = eqb→eq a b t in le→leb a b (omega arith)

    from : a ≤ b → (z : Bool) → (T (not z) → b ≤ a) → T (z || eqb a b)
    from k true f = tt
    from k false f = let l : b ≤ a = f tt in eq→eqb {a = a} {b = b} (omega arith)

-- ---- signed fractions of one denominator
quotient_below : (s : Bool) (a : ℕ) (t : Bool) (b c : ℕ) (i j : Integer) → 0 < c → IsQuotient s a c i → IsQuotient t b c j
    → below s a t b ≡ is_below i j
quotient_below false a false b c i j c> p q = ltb_scaled a b (i.pos + j.neg) (j.pos + i.neg) c c> (omega arith)
quotient_below false a true b c i j c> p q = none_below (a + b) ∙ ltb_scaled (a + b) 0 (i.pos + j.neg) (j.pos + i.neg) c c> (omega arith)
quotient_below true a false b c i j c> p q = ltb_scaled 0 (a + b) (i.pos + j.neg) (j.pos + i.neg) c c> (omega arith)
quotient_below true a true b c i j c> p q = ltb_scaled b a (i.pos + j.neg) (j.pos + i.neg) c c> (omega arith)

quotient_level : (s : Bool) (a : ℕ) (t : Bool) (b c : ℕ) (i j : Integer) → 0 < c → IsQuotient s a c i → IsQuotient t b c j
    → level s a t b ≡ is_equal i j
quotient_level false a false b c i j c> p q = and-true (eqb a b) ∙ eqb_scaled a b (i.pos + j.neg) (j.pos + i.neg) c c> (omega arith)
quotient_level false a true b c i j c> p q = both_zero a b ∙ eqb_scaled (a + b) 0 (i.pos + j.neg) (j.pos + i.neg) c c> (omega arith)
quotient_level true a false b c i j c> p q =
    both_zero a b ∙ eqb_swap (a + b) 0 ∙ eqb_scaled 0 (a + b) (i.pos + j.neg) (j.pos + i.neg) c c> (omega arith)
quotient_level true a true b c i j c> p q =
    and-true (eqb a b) ∙ eqb_swap a b ∙ eqb_scaled b a (i.pos + j.neg) (j.pos + i.neg) c c> (omega arith)

-- ---- the comparisons
pub lt_integer : (x y : Float) (i j : Integer) → IsInteger x i → IsInteger y j → lt x y ≡ is_below i j
unfolding lt
lt_integer nan y i j p q = absurd p
lt_integer (inf s) y i j p q = absurd p
lt_integer (fin s m e) nan i j p q = absurd q
lt_integer (fin s m e) (inf t) i j p q = absurd q
lt_integer (fin s m e) (fin t n d) i j p q =
    quotient_below s (m * up e * down d) t (n * up d * down e) (down e * down d) i j (downs_pos e d)
    (quotient_widen_right s (m * up e) (down e) (down d) i p) (quotient_widen_left t (n * up d) (down d) (down e) j q)

eq_integer : (x y : Float) (i j : Integer) → IsInteger x i → IsInteger y j → eq x y ≡ is_equal i j
unfolding eq
eq_integer nan y i j p q = absurd p
eq_integer (inf s) y i j p q = absurd p
eq_integer (fin s m e) nan i j p q = absurd q
eq_integer (fin s m e) (inf t) i j p q = absurd q
eq_integer (fin s m e) (fin t n d) i j p q =
    quotient_level s (m * up e * down d) t (n * up d * down e) (down e * down d) i j (downs_pos e d)
    (quotient_widen_right s (m * up e) (down e) (down d) i p) (quotient_widen_left t (n * up d) (down d) (down e) j q)

le_integer : (x y : Float) (i j : Integer) → IsInteger x i → IsInteger y j → le x y ≡ is_at_most i j
unfolding le
le_integer x y i j p q =
    ap (λ (b : Bool). b || eq x y) (lt_integer x y i j p q)
    ∙ ap (λ (b : Bool). is_below i j || b) (eq_integer x y i j p q)
    ∙ below_or_equal (i.pos + j.neg) (j.pos + i.neg)

pub le_of_at_most : (x y : Float) (i j : Integer) → IsInteger x i → IsInteger y j → i ≼ j → T (le x y)
le_of_at_most x y i j p q h = subst (λ (b : Bool). T b) (sym (le_integer x y i j p q)) (le→leb (i.pos + j.neg) (j.pos + i.neg) h)
