-- The count of leading zeros is how far a word is shifted up until its top bit is set.
-- Assumes nothing.
use Rattle.std.proofs.Common.{◌≡◌, ℕ, suc, ◌+◌, ◌*◌, ◌^◌, ◌<◌, ◌≤◌, sym, ◌∙◌, subst, le_trans, le_of_eq, add-suc, mul-le-mul_right, add_comm, arith, pow-add, shl_lt}
use native.Mathlib.Nat.{suc_inj}
use lib.Count.{count_leading_zeros, leading_top}

abbrev pub IsLeadingZeros : ℕ → ℕ → Type 0
IsLeadingZeros v r = (r < 64) × (2 ^ 63 ≤ v * 2 ^ r) × (v * 2 ^ r < 2 ^ 64)

-- at any width
pub normalises : (k v : ℕ) → 0 < v → v < 2 ^ suc k → let r = count_leading_zeros (suc k) v in (r < suc k) × (2 ^ k ≤ v * 2 ^ r) × (v * 2 ^ r < 2 ^ suc k)
normalises k v p h =
    let t = leading_top (suc k) v p h in
    go (count_leading_zeros (suc k) v) t.0 t.1 t.2 t.3
  where
    short : (s j : ℕ) → s + suc j ≡ suc k → s < suc k
    short s j e = omega arith

    go : (s j : ℕ) → s + suc j ≡ suc k → 2 ^ j ≤ v → v < 2 ^ suc j → (s < suc k) × (2 ^ k ≤ v * 2 ^ s) × (v * 2 ^ s < 2 ^ suc k)
    go s j e lo hi = (
      short s j e,
      subst (λ (x : ℕ). 2 ^ x ≤ v * 2 ^ s) (add_comm j s ∙ suc_inj (sym (add-suc s j) ∙ e)) (le_trans (le_of_eq (pow-add 2 j s)) (mul-le-mul_right (2 ^ s) lo)),
      subst (λ (x : ℕ). v * 2 ^ s < 2 ^ x) (add_comm (suc j) s ∙ e) (shl_lt {a = v} (suc j) s hi),
    )

pub leading_zeros_normalise : (v : ℕ) → 0 < v → v < 2 ^ 64 → IsLeadingZeros v (count_leading_zeros 64 v)
leading_zeros_normalise v p h = normalises 63 v p h
