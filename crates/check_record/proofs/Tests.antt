-- Laws of the tests: two in turn, and one at each of several places.
-- Assumes nothing.
use mathlib.Core.Path.{◌≡◌, refl, ap, ap₂, subst, ◌∙◌}
use Prim.Native.Nat.{ℕ, zero, suc, ◌+◌, ◌-◌, ◌*◌, ◌≤◌, ◌<◌}
use native.Mathlib.Nat.{mul-suc}
use native.Mathlib.Omega.{arith}
use mathlib.Core.Bool.{Bool, true, false}
use borrow.Author.Tests.{lt-ltb, le-ltb, le-leb, lt-leb, eq-eqb, ne_eqb}
use Rattle.check_record.specs.Tests.{both, every}

-- a test of a definition from the fact that a branch of the code has, for `search`
pub ruleset tests = (lt-ltb, le-ltb, le-leb, lt-leb, eq-eqb, ne_eqb)

pub both_true : {b c : Bool} → b ≡ true → c ≡ true → both b c ≡ true
unfolding both
both_true {b} {c} e f = rw (e, f)

pub both_first : (b c : Bool) → both b c ≡ true → b ≡ true
unfolding both
both_first true c e = refl
both_first false c e = e

pub both_second : (b c : Bool) → both b c ≡ true → c ≡ true
unfolding both
both_second true c e = e
both_second false true e = refl
both_second false false e = e

-- the places are passed one by one
every_pass : (p : ℕ → Bool) (w k at : ℕ) → 0 < k → p at ≡ true → every p w k at ≡ every p w (k - 1) (at + w)
unfolding every both
every_pass p w zero at h e = absurd (omega arith)
every_pass p w (suc k) at h e = let q : k ≡ suc k - 1 = omega arith in rw e (ap (λ (m : ℕ). every p w m (at + w)) q)

every_fail : (p : ℕ → Bool) (w k at : ℕ) → 0 < k → p at ≡ false → every p w k at ≡ false
unfolding every both
every_fail p w zero at h e = absurd (omega arith)
every_fail p w (suc k) at h e = rw e

every_none : (p : ℕ → Bool) (w k at : ℕ) → k ≤ 0 → every p w k at ≡ true
unfolding every
every_none p w zero at h = refl
every_none p w (suc k) at h = absurd (omega arith)

-- with i of k places behind
module _ (p : ℕ → Bool) (w k at i : ℕ) where
  pub every_next : i < k → p (at + w * i) ≡ true → every p w (k - i) (at + w * i) ≡ every p w (k - (i + 1)) (at + w * (i + 1))
  every_next h e =
      let left : k - i - 1 ≡ k - (i + 1) = omega arith in
      let place : at + w * i + w ≡ at + w * (i + 1) = omega (arith, mul-suc w i) in
      every_pass p w (k - i) (at + w * i) (omega arith) e ∙ ap₂ (every p w) left place

  pub every_stop : i < k → p (at + w * i) ≡ false → every p w (k - i) (at + w * i) ≡ false
  every_stop h e = every_fail p w (k - i) (at + w * i) (omega arith) e

  pub every_done : k ≤ i → every p w (k - i) (at + w * i) ≡ true
  every_done h = every_none p w (k - i) (at + w * i) (omega arith)

-- each place is passed
first_place : (at w : ℕ) → at ≡ at + w * 0
first_place at w = omega arith

next_place : (at w j : ℕ) → at + w + w * j ≡ at + w * suc j
next_place at w j = omega (arith, mul-suc w j)

pub every_at : (p : ℕ → Bool) (w k at j : ℕ) → every p w k at ≡ true → j < k → p (at + w * j) ≡ true
unfolding every
every_at p w zero at j e h = absurd (omega arith)
every_at p w (suc k) at zero e h = subst (λ (m : ℕ). p m ≡ true) (first_place at w) (both_first _ _ e)
every_at p w (suc k) at (suc j) e h = subst (λ (m : ℕ). p m ≡ true) (next_place at w j) (every_at p w k (at + w) j (both_second _ _ e) (omega arith))
