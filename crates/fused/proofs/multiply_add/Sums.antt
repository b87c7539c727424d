-- `sum` of `lib.Ieee` by its four cases, with the operands in the other order, and by any fractions that they equal.
-- Assumes nothing.
use mathlib.Core.Path.{◌≡◌, refl, sym, ap, ◌∙◌, subst}
use mathlib.Core.Logic.{◌⊎◌, inl, inr}
use mathlib.Core.Bool.{Bool, true, false, cond, ◌&&◌, beq, false≢true}
use Prim.Native.Nat.{ℕ, ◌+◌, ◌-◌, ◌*◌, ◌≤◌, ◌<◌}
use native.Mathlib.Nat.{le_of_eq, le_of_lt, add_comm, add-mul, mul_comm, mul-sub, eq-or-lt_of_le, mul-lt-mul_of_pos_right, lt_of_mul-lt-mul_right, eq_of_mul-eq-mul_right}
use native.Mathlib.Omega.{arith}
use lib.Dec.{ltb, ltb→lt, lt→ltb, not_T}
use lib.Ieee.{Format, round, sum}
use lib.Ieee.Bits.{is_true, is_false}
use lib.Ieee.Scale.{round_same}
use Rattle.rounding.proofs.Naturals.{lt_or_ge}

yes : (a b : ℕ) → a < b → ltb a b ≡ true
yes a b h = is_true (ltb a b) (lt→ltb a b h)

no : (a b : ℕ) → b ≤ a → ltb a b ≡ false
no a b h = is_false (ltb a b) (not_T (ltb a b) (λ t. clash a b h (ltb→lt a b t)))
  where
    clash : (a b : ℕ) → b ≤ a → a < b → ⊥
    clash a b p q = omega arith

module _ (f : Format) (s : Bool) (a : ℕ) (t : Bool) (b c : ℕ) where
  pub sum_alike : beq s t ≡ true → sum f s a t b c ≡ round f s (a + b) c
  unfolding sum
  sum_alike e = ap (λ (k : Bool). cond k (round f s (a + b) c) (cond (ltb a b) (round f t (b - a) c) (round f (s && ltb b a) (a - b) c))) e

  differ : beq s t ≡ false → sum f s a t b c ≡ cond (ltb a b) (round f t (b - a) c) (round f (s && ltb b a) (a - b) c)
  unfolding sum
  differ e = ap (λ (k : Bool). cond k (round f s (a + b) c) (cond (ltb a b) (round f t (b - a) c) (round f (s && ltb b a) (a - b) c))) e

  pub sum_less : beq s t ≡ false → a < b → sum f s a t b c ≡ round f t (b - a) c
  sum_less e h = differ e ∙ ap (λ (k : Bool). cond k (round f t (b - a) c) (round f (s && ltb b a) (a - b) c)) (yes a b h)

  rest : beq s t ≡ false → b ≤ a → sum f s a t b c ≡ round f (s && ltb b a) (a - b) c
  rest e h = differ e ∙ ap (λ (k : Bool). cond k (round f t (b - a) c) (round f (s && ltb b a) (a - b) c)) (no a b h)

  pub sum_more : beq s t ≡ false → b < a → sum f s a t b c ≡ round f s (a - b) c
  sum_more e h = rest e (le_of_lt h) ∙ ap (λ (k : Bool). round f (s && k) (a - b) c) (yes b a h) ∙ ap (λ (k : Bool). round f k (a - b) c) (with_true s)
    where
      with_true : (s : Bool) → (s && true) ≡ s
      with_true true = refl
      with_true false = refl

  pub sum_level : beq s t ≡ false → a ≡ b → sum f s a t b c ≡ round f false (a - b) c
  sum_level e h = rest e (le_of_eq (sym h)) ∙ ap (λ (k : Bool). round f (s && k) (a - b) c) (no b a (le_of_eq h)) ∙ ap (λ (k : Bool). round f k (a - b) c) (with_false s)
    where
      with_false : (s : Bool) → (s && false) ≡ false
      with_false true = refl
      with_false false = refl

-- ---- three ways for two numbers to stand
abbrev Order : ℕ → ℕ → Type 0
Order a b = (a < b) ⊎ ((a ≡ b) ⊎ (b < a))

order : (a b : ℕ) → Order a b
order a b = go (lt_or_ge a b)
  where
    go : (a < b) ⊎ (b ≤ a) → Order a b
    go (inl h) = inl h
    go (inr h) = pick (eq-or-lt_of_le h)
      where
        pick : (b ≡ a) ⊎ (b < a) → Order a b
        pick (inl e) = inr (inl (sym e))
        pick (inr l) = inr (inr l)

flip : (s t : Bool) → beq s t ≡ beq t s
flip true true = refl
flip true false = refl
flip false true = refl
flip false false = refl

alike : (s t : Bool) → beq s t ≡ true → s ≡ t
alike true true e = refl
alike false false e = refl
alike true false e = absurd (false≢true e)
alike false true e = absurd (false≢true e)

none : (a b : ℕ) → a ≡ b → a - b ≡ b - a
none a b e = omega arith

pub sum_swap : (f : Format) (s : Bool) (a : ℕ) (t : Bool) (b c : ℕ) → sum f s a t b c ≡ sum f t b s a c
sum_swap f s a t b c = go (beq s t) refl
  where
    go : (k : Bool) → beq s t ≡ k → sum f s a t b c ≡ sum f t b s a c
    go true e = sum_alike f s a t b c e ∙ ap (λ (k : Bool). round f k (a + b) c) (alike s t e) ∙ ap (λ (k : ℕ). round f t k c) (add_comm a b) ∙ sym (sum_alike f t b s a c (flip t s ∙ e))
    go false e = pick (order a b)
      where
        pick : Order a b → sum f s a t b c ≡ sum f t b s a c
        pick (inl h) = sum_less f s a t b c e h ∙ sym (sum_more f t b s a c (flip t s ∙ e) h)
        pick (inr (inl h)) = sum_level f s a t b c e h ∙ ap (λ (k : ℕ). round f false k c) (none a b h) ∙ sym (sum_level f t b s a c (flip t s ∙ e) (sym h))
        pick (inr (inr h)) = sum_more f s a t b c e h ∙ sym (sum_less f t b s a c (flip t s ∙ e) h)

-- ---- equal fractions
less_by : (a b a' b' c c' : ℕ) → 0 < c' → a * c' ≡ a' * c → b * c' ≡ b' * c → a < b → a' < b'
less_by a b a' b' c c' C p q h = lt_of_mul-lt-mul_right c (subst (λ (k : ℕ). k < b' * c) p (subst (λ (k : ℕ). a * c' < k) q (mul-lt-mul_of_pos_right h C)))

diff_by : (a b a' b' c c' : ℕ) → a * c' ≡ a' * c → b * c' ≡ b' * c → (a - b) * c' ≡ (a' - b') * c
diff_by a b a' b' c c' p q =
    mul_comm (a - b) c' ∙ mul-sub c' a b ∙ (λ i. (mul_comm c' a ∙ p ∙ mul_comm a' c) i - (mul_comm c' b ∙ q ∙ mul_comm b' c) i) ∙ sym (mul_comm (a' - b') c ∙ mul-sub c a' b')

pub sum_same : (f : Format) (s : Bool) (a : ℕ) (t : Bool) (b c a' b' c' : ℕ) → 0 < c → 0 < c' → a * c' ≡ a' * c → b * c' ≡ b' * c → sum f s a t b c ≡ sum f s a' t b' c'
sum_same f s a t b c a' b' c' C C' p q = go (beq s t) refl
  where
    go : (k : Bool) → beq s t ≡ k → sum f s a t b c ≡ sum f s a' t b' c'
    go true e =
        sum_alike f s a t b c e
        ∙ round_same f s (a + b) c (a' + b') c' C C' (add-mul a b c' ∙ (λ i. p i + q i) ∙ sym (add-mul a' b' c))
        ∙ sym (sum_alike f s a' t b' c' e)
    go false e = pick (order a b)
      where
        pick : Order a b → sum f s a t b c ≡ sum f s a' t b' c'
        pick (inl h) = sum_less f s a t b c e h ∙ round_same f t (b - a) c (b' - a') c' C C' (diff_by b a b' a' c c' q p) ∙ sym (sum_less f s a' t b' c' e (less_by a b a' b' c c' C' p q h))
        pick (inr (inl h)) =
            sum_level f s a t b c e h ∙ round_same f false (a - b) c (a' - b') c' C C' (diff_by a b a' b' c c' p q)
            ∙ sym (sum_level f s a' t b' c' e (eq_of_mul-eq-mul_right c C a' b' (sym p ∙ ap (λ (k : ℕ). k * c') h ∙ q)))
        pick (inr (inr h)) = sum_more f s a t b c e h ∙ round_same f s (a - b) c (a' - b') c' C C' (diff_by a b a' b' c c' p q) ∙ sym (sum_more f s a' t b' c' e (less_by b a b' a' c c' C' q p h))
