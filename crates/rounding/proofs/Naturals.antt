-- Natural numbers: the order decided, `compare` by the order of its arguments, and a law of remainders.
-- Assumes nothing.
use Rattle.std.proofs.Common.{◌≡◌, ℕ, ◌+◌, ◌*◌, ◌/◌, ◌%◌, ◌<◌, ◌≤◌, Bool, true, false, not, T, eqb, ltb, ◌⊎◌, sym, refl, ap, ◌∙◌, subst, inl, inr, mod-lt, mul_assoc, add-mul, mul-lt-mul_of_pos_right, div-add-mod', arith, eqb→eq, ltb→lt, leb→le, nltb→le}
use Prim.Native.Nat.{compare, Ordering}
use lib.Dec.{is_le, compare_is_eq, nleb→lt, eqb_refl}
use lib.Arith.{digits_mod}

pub lt_or_ge : (a b : ℕ) → (a < b) ⊎ (b ≤ a)
lt_or_ge a b = go (ltb a b) (ltb→lt a b) (nltb→le a b)
  where
    go : (t : Bool) → (T t → a < b) → (T (not t) → b ≤ a) → (a < b) ⊎ (b ≤ a)
    go true h k = inl (h tt)
    go false h k = inr (k tt)

-- ---- `compare`, by the order of its arguments
pub compare_lt : (a b : ℕ) → a < b → compare a b ≡ Ordering.lt
compare_lt a b h = go (compare a b) (nleb→lt a b) (eqb→eq a b)
  where
    no : b < a → ⊥
    no k = omega arith

    same : a ≡ b → ⊥
    same k = omega arith

    go : (o : Ordering) → (T (not (is_le o)) → b < a) → (T (compare_is_eq o) → a ≡ b) → o ≡ Ordering.lt
    go Ordering.lt k e = refl
    go Ordering.eq k e = absurd (same (e tt))
    go Ordering.gt k e = absurd (no (k tt))

pub compare_gt : (a b : ℕ) → b < a → compare a b ≡ Ordering.gt
compare_gt a b h = go (compare a b) (leb→le a b)
  where
    no : a ≤ b → ⊥
    no k = omega arith

    go : (o : Ordering) → (T (is_le o) → a ≤ b) → o ≡ Ordering.gt
    go Ordering.lt k = absurd (no (k tt))
    go Ordering.eq k = absurd (no (k tt))
    go Ordering.gt k = refl

pub compare_eq : (a b : ℕ) → a ≡ b → compare a b ≡ Ordering.eq
compare_eq a b e = go (compare a b) (subst (λ (x : ℕ). T (eqb a x)) e (eqb_refl a))
  where
    go : (o : Ordering) → T (compare_is_eq o) → o ≡ Ordering.eq
    go Ordering.lt t = absurd t
    go Ordering.eq t = refl
    go Ordering.gt t = absurd t

pub scaled_mod : (m u c : ℕ) → 0 < u → 0 < c → m * c % (u * c) ≡ m % u * c
scaled_mod m u c U C =
    ap (λ (x : ℕ). x % (u * c)) (sym whole)
    ∙ digits_mod (m / u) (mul-lt-mul_of_pos_right (mod-lt m U) C)
  where
    whole : m / u * (u * c) + m % u * c ≡ m * c
    whole = ap (λ (x : ℕ). x + m % u * c) (sym (mul_assoc (m / u) u c)) ∙ sym (add-mul (m / u * u) (m % u) c) ∙ ap (λ (x : ℕ). x * c) (div-add-mod' m u)
