-- Paper 4's statements of the walk, proved.
-- Assumes nothing.
use mathlib.Core.Path.{◌≡◌, sym, subst, ◌∙◌}
use Prim.Native.Nat.{ℕ, zero, suc, ◌+◌, ◌≤◌, ◌<◌}
use native.Mathlib.Omega.{arith}
use mathlib.Core.List.{List, [], ◌∷◌, ◌++◌}
use lib.ListN.{length}
use Rattle.walk.specs.Offsets.{max_sheet_bytes, length_at, offsets_from}
use Rattle.walk.specs.Every.{All}
use Rattle.walk.specs.Narrow.{OffsetsAreNarrow, ResultKeepsItsMeaning, ReachesPast, LongLengthEndsTheWalk, LongLengthsReachPast}
use Rattle.walk.proofs.Finding.{find_start}
use Rattle.walk.proofs.Offsets.{by_order, offsets_within, offsets_beyond, offsets_end, offsets_more, offsets_bad, offsets_some}

-- ---- Where the records are

abbrev Below : ℕ → Type 0
Below at = at < max_sheet_bytes

module _ (s : List ℕ) (most : length s ≤ max_sheet_bytes) where
  -- those from an offset on, behind which there are at most n bytes
  all_below : (n at : ℕ) → length s ≤ at + n → All Below (offsets_from s at)
  all_below zero at h = subst (All Below) (sym (offsets_end s at (omega arith))) tt
  all_below (suc n) at h =
      by_order (length s) at
      (λ past. subst (All Below) (sym (offsets_end s at past)) tt)
      (λ within.
      by_order 6 (length_at s at)
      (λ long. subst (All Below) (sym (offsets_more s at within long)) (omega arith, all_below n (at + length_at s at) (omega arith)))
      (λ short. subst (All Below) (sym (offsets_bad s at within short)) (omega arith, tt)))

pub offsets_are_narrow : OffsetsAreNarrow
offsets_are_narrow s =
    by_order (length s) max_sheet_bytes
    (λ h. subst (All Below) (sym (offsets_within s h)) (all_below s h (length s) 0 (omega arith)))
    (λ h. subst (All Below) (sym (offsets_beyond s h)) tt)

pub result_keeps_its_meaning : ResultKeepsItsMeaning
result_keeps_its_meaning s kind n h = sym (find_start s kind n h)

-- ---- A record that reaches past the end

-- a list with an element is not empty
some_not_none : {X : Type 0} (xs ys : List ℕ) (y : ℕ) → [] ≡ xs ++ y ∷ ys → X
some_not_none [] ys y e = let z : ◌≡◌ {A = ℕ} 0 1 = cc in absurd (omega arith)
some_not_none (x ∷ xs) ys y e = let z : ◌≡◌ {A = ℕ} 0 1 = cc in absurd (omega arith)

module _ (s : List ℕ) where
  -- an offset from which a walk meets a record is within the bytes, and is the first that it meets
  meets : (from x : ℕ) (xs : List ℕ) → offsets_from s from ≡ x ∷ xs → (from < length s) × (from ≡ x)
  meets from x xs e =
      by_order (length s) from
      (λ past. some_not_none [] xs x (sym (offsets_end s from past) ∙ e))
      (λ within. let first = offsets_some s from within in let f = first.1 in let same : from ≡ x = cc in (within, same))

  -- a walk that meets a record goes on from it as it would from there
  goes_on : (before after : List ℕ) (from at : ℕ) → offsets_from s from ≡ before ++ at ∷ after → offsets_from s at ≡ at ∷ after
  goes_on [] after from at e = subst (λ (x : ℕ). offsets_from s x ≡ at ∷ after) (meets from at after e).1 e
  goes_on (b ∷ before) after from at e =
      let within = (meets from b (before ++ at ∷ after) e).0 in
      by_order 6 (length_at s from)
      (λ long. let f = offsets_more s from within long in goes_on before after (from + length_at s from) at cc)
      (λ short. let f = offsets_bad s from within short in some_not_none before after at cc)

  last_of : (after : List ℕ) (at : ℕ) → offsets_from s at ≡ at ∷ after → ReachesPast s at → after ≡ []
  last_of after at e past =
      let within = (meets at at after e).0 in
      by_order 6 (length_at s at)
      (λ long. let f = offsets_more s at within long in let none = offsets_end s (at + length_at s at) (omega arith) in cc)
      (λ short. let f = offsets_bad s at within short in cc)

pub long_length_ends_the_walk : LongLengthEndsTheWalk
long_length_ends_the_walk s before after at e past =
    by_order (length s) max_sheet_bytes
    (λ h. last_of s after at (goes_on s before after 0 at (sym (offsets_within s h) ∙ e)) past)
    (λ h. some_not_none before after at (sym (offsets_beyond s h) ∙ e))

pub long_lengths_reach_past : LongLengthsReachPast
long_lengths_reach_past s at h = (λ e. omega arith, (λ e. omega arith, (λ e. omega arith, (λ e. omega arith, tt))))
