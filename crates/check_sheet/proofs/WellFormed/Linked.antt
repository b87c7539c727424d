-- What question 7 asked of each record of a valid sheet: a number is below the count of its kind, and a reference source below the reference's own
-- number.
-- Assumes nothing.
use mathlib.Core.Path.{◌≡◌, refl, sym, ◌∙◌, subst}
use Prim.Native.Nat.{ℕ, ◌+◌, ◌-◌, ◌*◌, ◌<◌}
use native.Mathlib.Omega.{arith}
use mathlib.Core.List.{List, [], ◌∷◌}
use mathlib.Core.Bool.{Bool, true, false}
use lib.Dec.{eqb}
use borrow.Author.Tests.{ltb-true, eqb-true, eqb-false}
use Rattle.walk.specs.Offsets.{kind_at, offsets}
use Rattle.walk.specs.Find.{find, find_in, of_kind_in, answer, count_of}
use Rattle.walk.proofs.Finding.{find_hit, find_next, find_other}
use Rattle.walk.specs.Every.{All}
use Rattle.walk.proofs.Every.{find_all}
use Rattle.std.specs.Prelude.{Some}
use Rattle.records.specs.Format as field
use Rattle.records.specs.Format.{reference, cell, end_of, field_at}
use Rattle.records.specs.Records.{cell_at, texts_from, nodes_from, references_from, cell_number_at, cell_geometry_at, cell_text_at, cell_node_at, cell_reference_at}
use Rattle.abstract_sheet.specs.Sheet.{cell_record_at, Kind, geometries, texts, nodes, references, cells, kind_number, numbers}
use Rattle.check_record.specs.Tests.{every}
use Rattle.check_record.proofs.Tests.{both_first, both_second, every_at}
use Rattle.check_sheet.specs.declared.Counts.{Counts}
use Rattle.check_sheet.specs.Count.{counts_of, tallied}
use Rattle.check_sheet.specs.Links.{source_named, below_at, lists_named, link_ok}
use Rattle.check_sheet.specs.Valid.{AllNamed, Valid}
use Rattle.check_sheet.proofs.WellFormed.Found.{found_right}

-- ---- A reference's own number is the one by which it is found

module _ (s : List ℕ) (c : Counts) where
  module _ (own n x at : ℕ) (xs : List ℕ) (later : (first m : ℕ) → AllNamed s c first xs → find_in s 4 m xs ≡ Some at → link_ok s c (first + m) at ≡ true)
      (here : link_ok s c own x ≡ true) (rest : AllNamed s c (tallied own (kind_at s x) 4) xs) (found : find_in s 4 n (x ∷ xs) ≡ Some at) where
    by_kind : (b z : Bool) → eqb (kind_at s x) 4 ≡ b → eqb n 0 ≡ z → link_ok s c (own + n) at ≡ true
    unfolding tallied
    by_kind true true k z =
        let none : n ≡ 0 = eqb-true _ _ z in
        let same : x ≡ at = cc (find_hit s 4 x xs (eqb-true _ _ k)) in
        let number : own ≡ own + n = omega arith in
        subst (λ (m : ℕ). link_ok s c m at ≡ true) number (subst (λ (m : ℕ). link_ok s c own m ≡ true) same here)
    by_kind true false k z =
        let some : n ≡ 0 → ⊥ = eqb-false _ _ z in
        let number : own + 1 + (n - 1) ≡ own + n = omega arith in
        subst (λ (m : ℕ). link_ok s c m at ≡ true) number (later (own + 1) (n - 1) (rw k at rest) (sym (find_next s 4 x xs n (eqb-true _ _ k) some) ∙ found))
    by_kind false z k y =
        let number : own + 0 + n ≡ own + n = omega arith in
        subst (λ (m : ℕ). link_ok s c m at ≡ true) number (later (own + 0) n (rw k at rest) (sym (find_other s 4 x xs n (eqb-false _ _ k)) ∙ found))

  reference_linked : (own n at : ℕ) (xs : List ℕ) → AllNamed s c own xs → find_in s 4 n xs ≡ Some at → link_ok s c (own + n) at ≡ true
  unfolding find_in of_kind_in answer
  reference_linked own n at [] h e = let z : ◌≡◌ {A = ℕ} 0 1 = cc in absurd (omega arith)
  reference_linked own n at (x ∷ xs) h e =
      by_kind own n x at xs (λ first m a b. reference_linked first m at xs a b) h.0 h.1 e (eqb (kind_at s x) 4) (eqb n 0) refl refl

  -- every record was asked, with some number for the next reference
  all_linked : (own : ℕ) (xs : List ℕ) → AllNamed s c own xs → All (λ at. (i : ℕ) × (link_ok s c i at ≡ true)) xs
  all_linked own [] h = tt
  all_linked own (x ∷ xs) h = ((own, h.0), all_linked (tallied own (kind_at s x) 4) xs h.1)

-- ---- What is found was asked

module _ (s : List ℕ) (valid : Valid s) (n at : ℕ) where
  -- a reference, with its own number
  pub source_asked : find s 4 n ≡ Some at → source_named (field_at reference field.source_kind s at) (field_at reference field.source_number s at) (counts_of s) n ≡ true
  unfolding link_ok
  source_asked e =
      let own : 0 + n ≡ n = omega arith in
      let linked : link_ok s (counts_of s) n at ≡ true =
      subst (λ (m : ℕ). link_ok s (counts_of s) m at ≡ true) own (reference_linked s (counts_of s) 0 n at (offsets s) valid.named e) in
      rw (found_right s valid 4 n at e).1 at linked

  lists_asked : find s 5 n ≡ Some at → lists_named s (counts_of s) at ≡ true
  unfolding link_ok
  lists_asked e =
      let asked = find_all s 5 n at _ (all_linked s (counts_of s) 0 (offsets s) valid.named) e in
      rw asked.1 at asked.0.1

-- ---- What the answers say

-- "every source but a cell source" names "an existing record"
pub source_exists : (s : List ℕ) (own number : ℕ) (kind : Kind) → kind_number kind < 5 → own < count_of s 4 → source_named (kind_number kind) number (counts_of s) own ≡ true
    → number < count_of s (kind_number kind)
unfolding source_named counts_of
source_exists s own number geometries h o e = ltb-true _ _ e
source_exists s own number texts h o e = ltb-true _ _ e
source_exists s own number nodes h o e = ltb-true _ _ e
source_exists s own number references h o e = omega (arith, ltb-true number own e)
source_exists s own number cells h o e = absurd (omega arith)

-- "and a reference source an earlier one"
pub source_earlier : (c : Counts) (own number : ℕ) → source_named 4 number c own ≡ true → number < own
unfolding source_named
source_earlier c own number e = ltb-true _ _ e

-- the numbers of a list, which starts at a place among the numbers of the cell
list_below : (s : List ℕ) (at first count bound from i : ℕ) → every (below_at s bound) 4 count from ≡ true → from ≡ at + end_of cell + 4 * first → i < count
    → cell_number_at s at (first + i) < bound
unfolding below_at cell_number_at
list_below s at first count bound from i e f h =
    let place : at + (end_of cell + 4 * (first + i)) ≡ from + 4 * i = omega arith in
    rw place (ltb-true _ _ (every_at (below_at s bound) 4 count from i e h))

-- "every number in a cell": its lists are asked one after the other
pub listed_below : (s : List ℕ) → Valid s → (n at : ℕ) → find s 5 n ≡ Some at → (kind : Kind) (i : ℕ) → i < (numbers kind (cell_record_at s at)).count
    → (numbers kind (cell_record_at s at)).at i < count_of s (kind_number kind)
unfolding lists_named counts_of cell_record_at cell_at cell_geometry_at cell_text_at cell_node_at cell_reference_at texts_from nodes_from references_from
listed_below s valid n at e geometries i h =
    let place : i ≡ 0 + i = omega arith in
    rw place (list_below s at 0 _ _ _ i (both_first _ _ (lists_asked s valid n at e)) (omega arith) h)
listed_below s valid n at e texts i h = list_below s at _ _ _ _ i (both_first _ _ (both_second _ _ (lists_asked s valid n at e))) refl h
listed_below s valid n at e nodes i h = list_below s at _ _ _ _ i (both_first _ _ (both_second _ _ (both_second _ _ (lists_asked s valid n at e)))) refl h
listed_below s valid n at e references i h = list_below s at _ _ _ _ i (both_second _ _ (both_second _ _ (both_second _ _ (lists_asked s valid n at e)))) refl h
listed_below s valid n at e cells i h = absurd (omega arith)
