-- Laws of `uint_at`: a field from its parts, a field past the end, and what a field's number depends on.
-- Assumes nothing.
use mathlib.Core.Path.{◌≡◌, refl, sym, ap, ap₂, ◌∙◌}
use Prim.Native.Nat.{ℕ, zero, suc, ◌+◌, ◌*◌, ◌^◌, ◌≤◌, ◌<◌}
use native.Mathlib.Nat.{suc-add, zero-add, add-zero, mul-add, mul_assoc, mul_comm, pow-suc, zero-lt-suc}
use native.Mathlib.Omega.{arith}
use mathlib.Core.List.{List}
use lib.ListN.{get_or, length, drop, get_or-eq_default}
use lib.Seq.{get_or-drop}
use Rattle.fields.specs.Field.{uint_at}

-- ---- a field of j + k bytes is its lower j bytes and then its upper k

regroup : (g a p q : ℕ) → g + 256 * (a + p * q) ≡ g + 256 * a + p * 256 * q
regroup g a p q = rw (mul-add 256 a (p * q), mul_comm p 256, mul_assoc 256 p q) (omega arith)

pub uint_at-add : (j k : ℕ) (s : List ℕ) (at : ℕ) → uint_at (j + k) s at ≡ uint_at j s at + 256 ^ j * uint_at k s (at + j)
unfolding uint_at
uint_at-add zero k s at = rw (zero-add k, add-zero at) (omega arith)
uint_at-add (suc j) k s at =
    ap (λ (m : ℕ). uint_at m s at) (suc-add j k)
    ∙ ap (λ (m : ℕ). get_or s at 0 + 256 * m) (uint_at-add j k s (at + 1))
    ∙ regroup (get_or s at 0) (uint_at j s (at + 1)) (256 ^ j) (uint_at k s (at + 1 + j))
    ∙ ap₂ (λ (p m : ℕ). get_or s at 0 + 256 * uint_at j s (at + 1) + p * uint_at k s m) (sym (pow-suc 256 j)) (omega arith)

-- ---- past the end there is 0

pub uint_at_past_end : (k : ℕ) (s : List ℕ) (at : ℕ) → length s ≤ at → uint_at k s at ≡ 0
unfolding uint_at
uint_at_past_end zero s at h = refl
uint_at_past_end (suc k) s at h = omega (arith, get_or-eq_default s 0 h, uint_at_past_end k s (at + 1) (omega arith))

-- ---- a field's number is decided by its k bytes

pub uint_at_same : (k : ℕ) (s t : List ℕ) (at place : ℕ) → ((i : ℕ) → i < k → get_or s (at + i) 0 ≡ get_or t (place + i) 0) → uint_at k s at ≡ uint_at k t place
unfolding uint_at
uint_at_same zero s t at place h = refl
uint_at_same (suc k) s t at place h =
    let first : get_or s at 0 ≡ get_or t place 0 =
    ap (λ (m : ℕ). get_or s m 0) (sym (add-zero at)) ∙ h 0 (zero-lt-suc k) ∙ ap (λ (m : ℕ). get_or t m 0) (add-zero place) in
    let later : uint_at k s (at + 1) ≡ uint_at k t (place + 1) =
    uint_at_same k s t (at + 1) (place + 1)
    (λ i b. let l : at + 1 + i ≡ at + (i + 1) = omega arith in
    let r : place + (i + 1) ≡ place + 1 + i = omega arith in
    ap (λ (m : ℕ). get_or s m 0) l ∙ h (i + 1) (omega arith) ∙ ap (λ (m : ℕ). get_or t m 0) r) in
    ap₂ (λ (a b : ℕ). a + 256 * b) first later

-- so a field is read alike in what follows an offset
pub uint_at-drop : (k n : ℕ) (s : List ℕ) (at : ℕ) → uint_at k (drop n s) at ≡ uint_at k s (n + at)
uint_at-drop k n s at =
    uint_at_same k (drop n s) s at (n + at)
    (λ i b. let e : n + (at + i) ≡ n + at + i = omega arith in
    get_or-drop n s (at + i) 0 ∙ ap (λ (m : ℕ). get_or s m 0) e)
