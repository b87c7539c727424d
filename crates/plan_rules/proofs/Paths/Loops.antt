-- Loops as code goes through them: what is left to do from i on is the whole.
-- Assumes nothing.
use mathlib.Core.Path.{◌≡◌, refl, sym, ap, ◌∙◌}
use Prim.Native.Nat.{ℕ, zero, suc, ◌+◌, ◌-◌, ◌≤◌, ◌<◌}
use native.Mathlib.Nat.{zero-add, sub-zero}
use native.Mathlib.Omega.{arith}
use Rattle.plan_rules.specs.World.{World, Flow, go, halt, bind, each}
use Rattle.plan_rules.specs.DrawUnits.{Units, fold}

-- ---- a loop that may stop early

module _ {A : Type 0} (f : ℕ → World A → Flow A) (n : ℕ) where
  pub each_start : (w : World A) → each f (n - 0) 0 w ≡ each f n 0 w
  each_start w = ap (λ (k : ℕ). each f k 0 w) (sub-zero n)

  -- the same where n is what the code has read
  pub each_from : (whole : ℕ) (w : World A) → n ≡ whole → each f (n - 0) 0 w ≡ each f whole 0 w
  each_from whole w e = each_start w ∙ ap (λ (k : ℕ). each f k 0 w) e

  module _ (i : ℕ) where
    each_turn : (w : World A) → i < n → each f (n - i) i w ≡ bind (f i w) (each f (n - (i + 1)) (i + 1))
    unfolding each
    each_turn w h = let e : n - i ≡ suc (n - (i + 1)) = omega arith in ap (λ (k : ℕ). each f k i w) e

    pub each_go : (w v : World A) → i < n → f i w ≡ go v → each f (n - i) i w ≡ each f (n - (i + 1)) (i + 1) v
    each_go w v h e = each_turn w h ∙ ap (λ (x : Flow A). bind x (each f (n - (i + 1)) (i + 1))) e

    pub each_halt : (w v : World A) → i < n → f i w ≡ halt v → each f (n - i) i w ≡ halt v
    each_halt w v h e = each_turn w h ∙ ap (λ (x : Flow A). bind x (each f (n - (i + 1)) (i + 1))) e

    pub each_done : (w : World A) → n ≤ i → each f (n - i) i w ≡ go w
    unfolding each
    each_done w h = let e : n - i ≡ 0 = omega arith in ap (λ (k : ℕ). each f k i w) e

-- ---- a loop in two parts

module _ {A : Type 0} where
  pub after_bind : (x : Flow A) (f g : World A → Flow A) → ((v : World A) → f v ≡ g v) → bind x f ≡ bind x g
  after_bind (go v) f g e = e v
  after_bind (halt v) f g e = refl

  bind_bind : (x : Flow A) (f g : World A → Flow A) → bind (bind x f) g ≡ bind x (λ v. bind (f v) g)
  bind_bind (go v) f g = refl
  bind_bind (halt v) f g = refl

  pub each_append : (f : ℕ → World A → Flow A) (a b i : ℕ) (w : World A) → each f (a + b) i w ≡ bind (each f a i w) (each f b (i + a))
  unfolding each
  each_append f zero b i w =
      let none : 0 + b ≡ b = omega arith in
      let here : i ≡ i + 0 = omega arith in
      ap (λ (k : ℕ). each f k i w) none ∙ ap (λ (j : ℕ). each f b j w) here
  each_append f (suc a) b i w =
      let more : suc a + b ≡ suc (a + b) = omega arith in
      let there : i + 1 + a ≡ i + suc a = omega arith in
      ap (λ (k : ℕ). each f k i w) more
      ∙ after_bind (f i w) (each f (a + b) (i + 1)) (λ v. bind (each f a (i + 1) v) (each f b (i + suc a)))
      (λ v. each_append f a b (i + 1) v ∙ ap (λ (j : ℕ). bind (each f a (i + 1) v) (each f b j)) there)
      ∙ sym (bind_bind (f i w) (each f a (i + 1)) (each f b (i + suc a)))

  -- a loop that halts at the turn of a
  pub each_halts_at : (f : ℕ → World A → Flow A) (n a : ℕ) (w w₁ v : World A) → a < n → each f a 0 w ≡ go w₁ → f a w₁ ≡ halt v → each f n 0 w ≡ halt v
  each_halts_at f n a w w₁ v h e k =
      let parts : n ≡ a + (n - a) = omega arith in
      ap (λ (m : ℕ). each f m 0 w) parts
      ∙ each_append f a (n - a) 0 w
      ∙ ap (λ (x : Flow A). bind x (each f (n - a) (0 + a))) e
      ∙ ap (λ (i : ℕ). each f (n - a) i w₁) (zero-add a)
      ∙ each_halt f n a w₁ v h k

-- ---- a fold

module _ (f : ℕ → Units → Units) (n : ℕ) where
  pub fold_start : (u : Units) → fold f (n - 0) 0 u ≡ fold f n 0 u
  fold_start u = ap (λ (k : ℕ). fold f k 0 u) (sub-zero n)

  pub fold_turn : (i : ℕ) (u v : Units) → i < n → f i u ≡ v → fold f (n - i) i u ≡ fold f (n - (i + 1)) (i + 1) v
  unfolding fold
  fold_turn i u v h e =
      let z : n - i ≡ suc (n - (i + 1)) = omega arith in
      ap (λ (k : ℕ). fold f k i u) z ∙ ap (fold f (n - (i + 1)) (i + 1)) e

  pub fold_done : (i : ℕ) (u : Units) → n ≤ i → fold f (n - i) i u ≡ u
  unfolding fold
  fold_done i u h = let z : n - i ≡ 0 = omega arith in ap (λ (k : ℕ). fold f k i u) z
