-- Where the records of a sheet are: the three equations of the list of offsets from one on, and that of the whole list, which are all that a walk needs.
-- Assumes nothing.
use mathlib.Core.Path.{◌≡◌, refl, sym, ap, ◌∙◌}
use Prim.Native.Nat.{ℕ, zero, suc, ◌+◌, ◌≤◌, ◌<◌}
use native.Mathlib.Nat.{lt_of_not-le}
use native.Mathlib.Decide.{dec_le}
use native.Mathlib.Omega.{arith}
use mathlib.Core.List.{List, [], ◌∷◌}
use lib.ListN.{length}
use borrow.Author.Tests.{lt-ltb, le-ltb, le-leb, lt-leb}
use Rattle.walk.specs.Offsets.{max_sheet_bytes, length_at, offsets_from, offsets_in, offsets}

-- one number is at most another, or above it
pub by_order {ℓ} : {X : Type ℓ} (a b : ℕ) → (a ≤ b → X) → (b < a → X) → X
by_order a b f g = elim (dec_le a b) [ yes h ↦ f h | no h ↦ g (lt_of_not-le h) ]

module _ (s : List ℕ) where
  in_more : (steps at : ℕ) → at < length s → 6 ≤ length_at s at → offsets_in (suc steps) s at ≡ at ∷ offsets_in steps s (at + length_at s at)
  unfolding offsets_in
  in_more steps at h k = rw (lt-ltb _ _ h, le-leb _ _ k)

  in_bad : (steps at : ℕ) → at < length s → length_at s at < 6 → offsets_in (suc steps) s at ≡ at ∷ []
  unfolding offsets_in
  in_bad steps at h k = rw (lt-ltb _ _ h, lt-leb _ _ k)

  in_end : (steps at : ℕ) → length s ≤ at → offsets_in steps s at ≡ []
  unfolding offsets_in
  in_end zero at h = refl
  in_end (suc steps) at h = rw (le-ltb _ _ h)

  -- as many steps as there are bytes left are enough
  enough_steps : (i j at : ℕ) → length s ≤ at + i → length s ≤ at + j → offsets_in i s at ≡ offsets_in j s at
  enough_steps zero j at hi hj = in_end zero at (omega arith) ∙ sym (in_end j at (omega arith))
  enough_steps (suc i) zero at hi hj = in_end (suc i) at (omega arith) ∙ sym (in_end zero at (omega arith))
  enough_steps (suc i) (suc j) at hi hj =
      by_order (length s) at
      (λ h. in_end (suc i) at h ∙ sym (in_end (suc j) at h))
      (λ h.
      by_order 6 (length_at s at)
      (λ k. in_more i at h k ∙ ap (λ (l : List ℕ). at ∷ l) (enough_steps i j (at + length_at s at) (omega arith) (omega arith)) ∙ sym (in_more j at h k))
      (λ k. in_bad i at h k ∙ sym (in_bad j at h k)))

  -- at the end of the bytes there are no more records
  pub offsets_end : (at : ℕ) → length s ≤ at → offsets_from s at ≡ []
  unfolding offsets_from
  offsets_end at h = in_end (length s) at h

  -- a record that has its head is followed by what stands at its end
  pub offsets_more : (at : ℕ) → at < length s → 6 ≤ length_at s at → offsets_from s at ≡ at ∷ offsets_from s (at + length_at s at)
  unfolding offsets_from
  offsets_more at h k = enough_steps (length s) (suc (length s)) at (omega arith) (omega arith) ∙ in_more (length s) at h k

  -- a record that says it is shorter than its head is the last
  pub offsets_bad : (at : ℕ) → at < length s → length_at s at < 6 → offsets_from s at ≡ at ∷ []
  unfolding offsets_from
  offsets_bad at h k = enough_steps (length s) (suc (length s)) at (omega arith) (omega arith) ∙ in_bad (length s) at h k

  -- past the last record, whose next would stand past the end of the bytes, a walk goes on from the end
  pub offsets_last : (at : ℕ) → at < length s → (6 ≤ length_at s at → length s ≤ at + length_at s at) → offsets_from s at ≡ at ∷ offsets_from s (length s)
  offsets_last at h past =
      let none = sym (offsets_end (length s) (omega arith)) in
      by_order 6 (length_at s at)
      (λ k. offsets_more at h k ∙ ap (λ (l : List ℕ). at ∷ l) (offsets_end (at + length_at s at) (past k) ∙ none))
      (λ k. offsets_bad at h k ∙ ap (λ (l : List ℕ). at ∷ l) none)

  -- before the end of the bytes there is a record
  pub offsets_some : (at : ℕ) → at < length s → (xs : List ℕ) × (offsets_from s at ≡ at ∷ xs)
  offsets_some at h = by_order 6 (length_at s at) (λ k. (offsets_from s (at + length_at s at), offsets_more at h k)) (λ k. ([], offsets_bad at h k))

  -- the records of a sheet are those from its start on
  pub offsets_within : length s ≤ max_sheet_bytes → offsets s ≡ offsets_from s 0
  unfolding offsets
  offsets_within h = rw (le-leb _ _ h)

  -- more bytes than a sheet may have hold none
  pub offsets_beyond : max_sheet_bytes < length s → offsets s ≡ []
  unfolding offsets
  offsets_beyond h = rw (lt-leb _ _ h)
