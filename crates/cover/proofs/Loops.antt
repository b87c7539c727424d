-- Loops that stop early, seen from one of their steps: Q holds at the end if that step brings it about, if every earlier step that halts does, and if every step keeps it.
-- Assumes nothing.
use mathlib.Core.Path.{◌≡◌, sym, subst}
use mathlib.Core.Logic.{◌⊎◌, inl, inr}
use mathlib.Core.Bool.{Bool, true, false, not}
use Prim.Native.Nat.{ℕ, zero, suc, ◌+◌, ◌≤◌, ◌<◌}
use native.Mathlib.Omega.{arith}
use lib.Dec.{leb, leb→le, nleb→lt}
use lib.Dec.{T as Yes}
use Rattle.plan_rules.specs.World.{World, Flow, go, halt, bind, ending, each}

at_or_below : (i a : ℕ) → i ≤ a → (i ≡ a) ⊎ (i < a)
at_or_below i a h = by (leb (suc i) a) (leb→le (suc i) a) (nleb→lt (suc i) a)
  where
    by : (b : Bool) → (Yes b → suc i ≤ a) → (Yes (not b) → a < suc i) → (i ≡ a) ⊎ (i < a)
    by true f g = inr (f tt)
    by false f g = let k = g tt in inl (omega arith)

module _ {A : Type 0} (Q : World A → Type 0) where
  abbrev pub OnGo : Flow A → Type 0
  OnGo (go w) = Q w
  OnGo (halt w) = Unit {0}

  abbrev pub OnHalt : Flow A → Type 0
  OnHalt (go w) = Unit {0}
  OnHalt (halt w) = Q w

  abbrev pub Keeps : (World A → Flow A) → Type 0
  Keeps f = (w : World A) → Q w → Q (ending (f w))

  goes_of : (x : Flow A) → Q (ending x) → OnGo x
  goes_of (go w) h = h
  goes_of (halt w) h = tt

  bind_keeps : (x : Flow A) (f : World A → Flow A) → Q (ending x) → Keeps f → Q (ending (bind x f))
  bind_keeps (go w) f h k = k w h
  bind_keeps (halt w) f h k = h

  bind_after : (x : Flow A) (f : World A → Flow A) → OnHalt x → ((w : World A) → Q (ending (f w))) → Q (ending (bind x f))
  bind_after (go w) f h k = k w
  bind_after (halt w) f h k = h

  bind_halts : (x : Flow A) (f : World A → Flow A) → OnHalt x → ((w : World A) → OnHalt (f w)) → OnHalt (bind x f)
  bind_halts (go w) f h k = k w
  bind_halts (halt w) f h k = h

  bind_goes : (x : Flow A) (f : World A → Flow A) → ((w : World A) → OnGo (f w)) → OnGo (bind x f)
  bind_goes (go w) f k = k w
  bind_goes (halt w) f k = tt

  bind_goes_on : (x : Flow A) (f : World A → Flow A) → OnGo x → ((w : World A) → Q w → OnGo (f w)) → OnGo (bind x f)
  bind_goes_on (go w) f h k = k w h
  bind_goes_on (halt w) f h k = tt

  pub each_halts : (f : ℕ → World A → Flow A) → ((i : ℕ) (w : World A) → OnHalt (f i w)) → (n i : ℕ) (w : World A) → OnHalt (each f n i w)
  unfolding each
  each_halts f h zero i w = tt
  each_halts f h (suc n) i w = bind_halts (f i w) (each f n (i + 1)) (h i w) (each_halts f h n (i + 1))

  pub each_keeps : (f : ℕ → World A → Flow A) (N : ℕ) → ((b : ℕ) → b < N → Keeps (f b)) → (n i : ℕ) → i + n ≡ N → Keeps (each f n i)
  unfolding each
  each_keeps f N k zero i e w h = h
  each_keeps f N k (suc n) i e w h = bind_keeps (f i w) (each f n (i + 1)) (k i (omega arith) w h) (each_keeps f N k n (i + 1) (omega arith))

  module _ (f : ℕ → World A → Flow A) (N a : ℕ) (a< : a < N) (keep : (b : ℕ) → b < N → Keeps (f b)) where
    pub each_covers : ((b : ℕ) → b < a → (w : World A) → OnHalt (f b w)) → ((w : World A) → Q (ending (f a w))) → (n i : ℕ) → i + n ≡ N → i ≤ a → (w : World A) → Q (ending (each f n i w))
    unfolding each
    each_covers before self zero i e l w = absurd (let z : ⊥ = omega arith in z)
    each_covers before self (suc n) i e l w = by (at_or_below i a l) (λ k. each_covers before self n (i + 1) (omega arith) k)
      where
        by : (i ≡ a) ⊎ (i < a) → (i + 1 ≤ a → (w : World A) → Q (ending (each f n (i + 1) w))) → Q (ending (bind (f i w) (each f n (i + 1))))
        by (inl z) below = bind_keeps (f i w) (each f n (i + 1)) (subst (λ (j : ℕ). Q (ending (f j w))) (sym z) (self w)) (each_keeps f N keep n (i + 1) (omega arith))
        by (inr z) below = bind_after (f i w) (each f n (i + 1)) (before i z w) (below (omega arith))

    pub each_goes : ((w : World A) → OnGo (f a w)) → (n i : ℕ) → i + n ≡ N → i ≤ a → (w : World A) → OnGo (each f n i w)
    unfolding each
    each_goes self zero i e l w = absurd (let z : ⊥ = omega arith in z)
    each_goes self (suc n) i e l w = by (at_or_below i a l) (λ k. each_goes self n (i + 1) (omega arith) k)
      where
        by : (i ≡ a) ⊎ (i < a) → (i + 1 ≤ a → (w : World A) → OnGo (each f n (i + 1) w)) → OnGo (bind (f i w) (each f n (i + 1)))
        by (inl z) below = bind_goes_on (f i w) (each f n (i + 1)) (subst (λ (j : ℕ). OnGo (f j w)) (sym z) (self w)) (λ v h. goes_of (each f n (i + 1) v) (each_keeps f N keep n (i + 1) (omega arith) v h))
        by (inr z) below = bind_goes (f i w) (each f n (i + 1)) (below (omega arith))

  -- four loops in a row, seen from a step of the first, the second, the third, the fourth
  module _ (x : Flow A) (f₂ f₃ f₄ : World A → Flow A) where
    pub in_first : Q (ending x) → Keeps f₂ → Keeps f₃ → Keeps f₄ → Q (ending (bind (bind (bind x f₂) f₃) f₄))
    in_first h k₂ k₃ k₄ = bind_keeps (bind (bind x f₂) f₃) f₄ (bind_keeps (bind x f₂) f₃ (bind_keeps x f₂ h k₂) k₃) k₄

    pub in_second : OnHalt x → ((w : World A) → Q (ending (f₂ w))) → Keeps f₃ → Keeps f₄ → Q (ending (bind (bind (bind x f₂) f₃) f₄))
    in_second h k₂ k₃ k₄ = bind_keeps (bind (bind x f₂) f₃) f₄ (bind_keeps (bind x f₂) f₃ (bind_after x f₂ h k₂) k₃) k₄

    pub in_third : OnHalt x → ((w : World A) → OnHalt (f₂ w)) → ((w : World A) → Q (ending (f₃ w))) → Keeps f₄ → Q (ending (bind (bind (bind x f₂) f₃) f₄))
    in_third h h₂ k₃ k₄ = bind_keeps (bind (bind x f₂) f₃) f₄ (bind_after (bind x f₂) f₃ (bind_halts x f₂ h h₂) k₃) k₄

    pub in_fourth : OnHalt x → ((w : World A) → OnHalt (f₂ w)) → ((w : World A) → OnHalt (f₃ w)) → ((w : World A) → Q (ending (f₄ w))) → Q (ending (bind (bind (bind x f₂) f₃) f₄))
    in_fourth h h₂ h₃ k₄ = bind_after (bind (bind x f₂) f₃) f₄ (bind_halts (bind x f₂) f₃ (bind_halts x f₂ h h₂) h₃) k₄
