-- The places of the five kinds while the records are passed one by one. A list has, at each kind's number, the place of the kind's next record.
-- A loop over the records keeps `Running`, and a fact of each place that is settled: no record that is left has it.
-- Assumes nothing.
use mathlib.Core.Path.{◌≡◌, refl, sym, ap, subst, ◌∙◌}
use mathlib.Core.Bool.{Bool, true, false, cond}
use mathlib.Core.List.{List, [], ◌∷◌}
use Prim.Native.Nat.{ℕ, ◌+◌, ◌≤◌, ◌<◌}
use native.Mathlib.Omega.{arith}
use lib.ListN.{length, get_or, set, length-set}
use lib.Seq.{get_or-set_same, get_or-set_other}
use lib.Dec.{eqb}
use borrow.Author.Tests.{eqb-true, eqb-false, eq-eqb}
use Rattle.walk.specs.Offsets.{length_at, kind_at, offsets_from, offsets}
use Rattle.walk.specs.Every.{All}
use Rattle.walk.specs.Find.{of_kind_in, count_of, count_in}
use Rattle.walk.proofs.Offsets.{offsets_more}
use Rattle.walk.proofs.Every.{all_step}
use Rattle.walk.proofs.Finding.{count_step}
use Rattle.check_record.specs.Record.{Right}
use Rattle.check_record.proofs.Facts.Lengths.{shape_known}
use Rattle.check_sheet.specs.Count.{counts_of}
use Rattle.look_up.specs.Places.{start_for}
use Rattle.finder.specs.Finder.{finder_of, starts_of}
use Rattle.finder.proofs.Stands.{Stands, stands_first, stands_next}
use Rattle.finder.proofs.ByKind.{Known, starts_at, kind_starts, finder_length}

-- the places behind a record of a kind
abbrev pub advance : List ℕ → ℕ → List ℕ
advance p k = set p k (get_or p k 0 + 1)

advanced : (p : List ℕ) (k j : ℕ) → k < length p → get_or (advance p k) j 0 ≡ get_or p j 0 + cond (eqb k j) 1 0
advanced p k j h = by_test (eqb k j) refl
  where
    by_test : (b : Bool) → eqb k j ≡ b → get_or (advance p k) j 0 ≡ get_or p j 0 + cond b 1 0
    by_test true e = subst (λ (i : ℕ). get_or (advance p k) i 0 ≡ get_or p i 0 + 1) (eqb-true k j e) (get_or-set_same p k _ 0 h)
    by_test false e = let q : get_or p j 0 ≡ get_or p j 0 + 0 = omega arith in get_or-set_other p k j _ 0 (λ same. eqb-false k j e (sym same)) ∙ q

module _ (s : List ℕ) where
  -- the places of the kinds where the records xs are left
  pub record Running (p xs : List ℕ) : Type 0 where
    pub six : length p ≡ 6
    pub left : (k : ℕ) → Known k → Stands (finder_of s) (get_or p k 0) (of_kind_in s k xs)

  -- no record that is left has place i
  abbrev pub Settled : List ℕ → List ℕ → ℕ → Type 0
  Settled p xs i = (k : ℕ) → Known k → get_or p k 0 ≤ i → get_or p k 0 + count_in s k xs ≤ i

  -- ---- Before the first record

  pub running_start : Running (starts_of (counts_of s)) (offsets s)
  running_start =
      record { six = refl; left = λ k known. subst (λ (place : ℕ). Stands (finder_of s) place (of_kind_in s k (offsets s))) (sym (starts_at _ k known)) (kind_starts s k known) }

  -- all places of the sheet's finder are to come
  pub settled_start : (i : ℕ) → Settled (starts_of (counts_of s)) (offsets s) i → length (finder_of s) ≤ i
  unfolding start_for counts_of
  settled_start i h =
      let geometries : count_of s 1 ≤ i = let g = h 1 (omega arith) (omega arith) in omega arith in
      let texts : count_of s 1 + count_of s 2 ≤ i = h 2 (omega arith) geometries in
      let nodes : count_of s 1 + count_of s 2 + count_of s 3 ≤ i = h 3 (omega arith) texts in
      let references : count_of s 1 + count_of s 2 + count_of s 3 + count_of s 4 ≤ i = h 4 (omega arith) nodes in
      let cells : count_of s 1 + count_of s 2 + count_of s 3 + count_of s 4 + count_of s 5 ≤ i = h 5 (omega arith) references in
      omega (arith, finder_length s)

  -- ---- The record at hand

  pub record AtHand (at : ℕ) : Type 0 where
    pub right : Right s at
    pub known : Known (kind_at s at)
    pub later : All (Right s) (offsets_from s (at + length_at s at))
    pub first : offsets_from s at ≡ at ∷ offsets_from s (at + length_at s at)

  pub at_hand : (at : ℕ) → All (Right s) (offsets_from s at) → at < length s → AtHand at
  at_hand at h within =
      let step = all_step s (Right s) at (λ r. r.whole.head) h within in
      record { right = step.0; known = shape_known s at step.0.shape; later = step.1; first = offsets_more s at within step.0.whole.head }

  module _ (p : List ℕ) (at : ℕ) (xs : List ℕ) (known : Known (kind_at s at)) (run : Running p (at ∷ xs)) where
    -- the place of the next record of its kind is its own
    pub running_here : (get_or p (kind_at s at) 0 < length (finder_of s)) × (get_or (finder_of s) (get_or p (kind_at s at) 0) 0 ≡ at)
    unfolding of_kind_in
    running_here = stands_first _ _ at (of_kind_in s (kind_at s at) xs) (subst (Stands (finder_of s) _) here (run.left (kind_at s at) known))
      where
        here : of_kind_in s (kind_at s at) (at ∷ xs) ≡ at ∷ of_kind_in s (kind_at s at) xs
        here = rw (eq-eqb (kind_at s at) (kind_at s at) refl)

    within : kind_at s at < length p
    within = omega (arith, run.six)

    pub running_next : Running (advance p (kind_at s at)) xs
    unfolding of_kind_in
    running_next =
        record {
          six = length-set p _ _ ∙ run.six;
          left = λ k known-k. subst (λ (place : ℕ). Stands (finder_of s) place (of_kind_in s k xs)) (sym (advanced p (kind_at s at) k within)) (by_test k (eqb (kind_at s at) k) (run.left k known-k));
        }
      where
        by_test : (k : ℕ) (b : Bool) → Stands (finder_of s) (get_or p k 0) (cond b (at ∷ of_kind_in s k xs) (of_kind_in s k xs)) → Stands (finder_of s) (get_or p k 0 + cond b 1 0) (of_kind_in s k xs)
        by_test k true h = stands_next _ _ at (of_kind_in s k xs) h
        by_test k false h = let q : get_or p k 0 ≡ get_or p k 0 + 0 = omega arith in subst (λ (place : ℕ). Stands (finder_of s) place (of_kind_in s k xs)) q h

    -- another place that is settled behind the record was so before it
    pub settled_before : (i : ℕ) → (i ≡ get_or p (kind_at s at) 0 → ⊥) → Settled (advance p (kind_at s at)) xs i → Settled p (at ∷ xs) i
    settled_before i other h k known-k low =
        let next = advanced p (kind_at s at) k within in
        let count = count_step s k at xs in
        let reached = by_test (eqb (kind_at s at) k) refl in
        let after = h k known-k (omega arith) in
        omega arith
      where
        by_test : (b : Bool) → eqb (kind_at s at) k ≡ b → get_or p k 0 + cond b 1 0 ≤ i
        by_test true e = let place : get_or p (kind_at s at) 0 ≡ get_or p k 0 = ap (λ (j : ℕ). get_or p j 0) (eqb-true _ _ e) in omega arith
        by_test false e = omega arith

  -- ---- Behind the last record

  pub settled_end : (p : List ℕ) (i : ℕ) → Settled p [] i
  unfolding of_kind_in
  settled_end p i k known h = omega arith
