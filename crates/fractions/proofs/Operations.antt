-- EACH OPERATION ROUNDS the exact result of its operands, once: sum, product and the fused operation. Assumes nothing.
use mathlib.Core.Path.{◌≡◌, sym, ap, ◌∙◌, subst}
use mathlib.Core.Bool.{Bool, true, false}
use Prim.Native.Nat.{ℕ, ◌+◌, ◌*◌, ◌^◌}
use native.Mathlib.Omega.{arith}
use lib.IntN.{ℤ}
use lib.Pow.{pow-add}
use lib.Ieee.{Float, nan, inf, fin, Format, up, down, sum, add, mul, unlike}
use Rattle.floats.specs.Order.{is_finite}
use Rattle.fused.specs.Fma.{fma}
use Rattle.exact.specs.Integer.{Integer, integer, ◌⊕◌, ◌⊗◌, negate_if, ◌≐◌}
use Rattle.exact.proofs.Integers.Products.{product_sign}
use Rattle.exact.proofs.Floats.Sum.{sum_is_round}
use Rattle.fractions.specs.Fraction.{◌⊙◌, ◌⊞◌, ◌⊠◌, Finite, places_of, value_of}
use Rattle.fractions.proofs.Rounding.{Rounds, down_is, round_rounds}

-- ---- the same integer, written otherwise
same_through : (i j k : Integer) → i ≐ j → i ≐ k → j ≐ k
same_through i j k p q = omega arith

same_sum : (i j k l : Integer) → i ≐ k → j ≐ l → i ⊕ j ≐ k ⊕ l
same_sum i j k l p q = omega arith

sign_times : (s : Bool) (a n m : ℕ) → n ≡ m → negate_if s (integer (a * n)) ≐ negate_if s (integer a) ⊙ m
sign_times false a n m e = let k : a * n ≡ a * m = ap (λ (z : ℕ). a * z) e in omega arith
sign_times true a n m e = let k : a * n ≡ a * m = ap (λ (z : ℕ). a * z) e in omega arith

pub same_times : (i j k : Integer) (n : ℕ) → i ≐ j ⊙ n → j ≐ k → i ≐ k ⊙ n
same_times i j k n p q = let h : (j.pos + k.neg) * n ≡ (k.pos + j.neg) * n = ap (λ (z : ℕ). z * n) q in omega arith

-- ---- the operations
sum_rounds : (f : Format) (s : Bool) (a : ℕ) (t : Bool) (b c k : ℕ) (i : Integer) → c ≡ 2 ^ k → negate_if s (integer a) ⊕ negate_if t (integer b) ≐ i → Rounds f (sum f s a t b c) (record { num = i; places = k })
sum_rounds f s a t b c k i q e =
    let r = sum_is_round f s a t b c in
    subst (λ (x : Float). Rounds f x (record { num = i; places = k })) (sym r.2)
    (round_rounds f r.0 r.1 c k i q (same_through (negate_if s (integer a) ⊕ negate_if t (integer b)) (negate_if r.0 (integer r.1)) i r.3 e))

downs_are : (e d : ℤ) → down e * down d ≡ 2 ^ (places_of e + places_of d)
downs_are e d = (λ i. down_is e i * down_is d i) ∙ sym (pow-add 2 (places_of e) (places_of d))

pub add_rounds : (f : Format) (x y : Float) → Finite x → Finite y → Rounds f (add f x y) (value_of x ⊞ value_of y)
unfolding add is_finite
add_rounds f nan y p q = absurd p
add_rounds f (inf s) y p q = absurd p
add_rounds f (fin s m e) nan p q = absurd q
add_rounds f (fin s m e) (inf t) p q = absurd q
add_rounds f (fin s m e) (fin t n d) p q =
    sum_rounds f s (m * up e * down d) t (n * up d * down e) (down e * down d) (places_of e + places_of d) (value_of (fin s m e) ⊞ value_of (fin t n d)).num (downs_are e d)
    (same_sum (negate_if s (integer (m * up e * down d))) (negate_if t (integer (n * up d * down e))) (negate_if s (integer (m * up e)) ⊙ 2 ^ places_of d) (negate_if t (integer (n * up d)) ⊙ 2 ^ places_of e)
    (sign_times s (m * up e) (down d) (2 ^ places_of d) (down_is d)) (sign_times t (n * up d) (down e) (2 ^ places_of e) (down_is e)))

pub mul_rounds : (f : Format) (x y : Float) → Finite x → Finite y → Rounds f (mul f x y) (value_of x ⊠ value_of y)
unfolding mul is_finite
mul_rounds f nan y p q = absurd p
mul_rounds f (inf s) y p q = absurd p
mul_rounds f (fin s m e) nan p q = absurd q
mul_rounds f (fin s m e) (inf t) p q = absurd q
mul_rounds f (fin s m e) (fin t n d) p q =
    round_rounds f (unlike s t) (m * up e * (n * up d)) (down e * down d) (places_of e + places_of d) (value_of (fin s m e) ⊠ value_of (fin t n d)).num (downs_are e d) (product_sign s t (m * up e) (n * up d))

pub fma_rounds : (f : Format) (x y z : Float) → Finite x → Finite y → Finite z → Rounds f (fma f x y z) (value_of x ⊠ value_of y ⊞ value_of z)
unfolding fma is_finite
fma_rounds f nan y z p q r = absurd p
fma_rounds f (inf s) y z p q r = absurd p
fma_rounds f (fin s m e) nan z p q r = absurd q
fma_rounds f (fin s m e) (inf t) z p q r = absurd q
fma_rounds f (fin s m e) (fin t n d) nan p q r = absurd r
fma_rounds f (fin s m e) (fin t n d) (inf u) p q r = absurd r
fma_rounds f (fin s m e) (fin t n d) (fin u k g) p q r =
    let ab = m * up e * (n * up d) in
    let c = down e * down d in
    let xy = negate_if s (integer (m * up e)) ⊗ negate_if t (integer (n * up d)) in
    let whole-den : c * down g ≡ 2 ^ (places_of e + places_of d + places_of g) = (λ i. downs_are e d i * down_is g i) ∙ sym (pow-add 2 (places_of e + places_of d) (places_of g)) in
    sum_rounds f (unlike s t) (ab * down g) u (k * up g * c) (c * down g) (places_of e + places_of d + places_of g) (value_of (fin s m e) ⊠ value_of (fin t n d) ⊞ value_of (fin u k g)).num whole-den
    (same_sum (negate_if (unlike s t) (integer (ab * down g))) (negate_if u (integer (k * up g * c))) (xy ⊙ 2 ^ places_of g) (negate_if u (integer (k * up g)) ⊙ 2 ^ (places_of e + places_of d))
    (same_times (negate_if (unlike s t) (integer (ab * down g))) (negate_if (unlike s t) (integer ab)) xy (2 ^ places_of g) (sign_times (unlike s t) ab (down g) (2 ^ places_of g) (down_is g)) (product_sign s t (m * up e) (n * up d)))
    (sign_times u (k * up g) c (2 ^ (places_of e + places_of d)) (downs_are e d)))
