-- Where the records of each kind stand in a sheet's finder: behind those of the kinds before it.
-- Assumes nothing.
use mathlib.Core.Path.{◌≡◌, refl, sym, ◌∙◌}
use mathlib.Core.Bool.{cond}
use mathlib.Core.List.{List, [], append-nil}
use Prim.Native.Nat.{ℕ, zero, suc, ◌+◌, ◌≤◌}
use native.Mathlib.Omega.{arith}
use lib.ListN.{length, get_or, length-append}
use lib.Seq.{drop-append_seam}
use lib.Dec.{eqb}
use Rattle.walk.specs.Find.{of_kind, count_of}
use Rattle.abstract_sheet.specs.Sheet.{Kind, geometries, texts, nodes, references, cells, kind_number}
use Rattle.check_sheet.specs.declared.Counts.{Counts}
use Rattle.check_sheet.specs.Count.{counts_of}
use Rattle.look_up.specs.Places.{count_for, start_for}
use Rattle.finder.specs.Finder.{finder_of, starts_of}
use Rattle.finder.proofs.Stands.{Stands, behind}

-- a kind of document 01's table
abbrev pub Known : ℕ → Type 0
Known k = (1 ≤ k) × (k ≤ 5)

-- the five of them
pub by_kind {ℓ} : (P : ℕ → Type ℓ) → P 1 → P 2 → P 3 → P 4 → P 5 → (k : ℕ) → Known k → P k
by_kind P a b c d e zero h = absurd (omega arith)
by_kind P a b c d e (suc zero) h = a
by_kind P a b c d e (suc (suc zero)) h = b
by_kind P a b c d e (suc (suc (suc zero))) h = c
by_kind P a b c d e (suc (suc (suc (suc zero)))) h = d
by_kind P a b c d e (suc (suc (suc (suc (suc zero))))) h = e
by_kind P a b c d e (suc (suc (suc (suc (suc (suc k)))))) h = absurd (omega arith)

pub kind_known : (kind : Kind) → Known (kind_number kind)
kind_known geometries = omega arith
kind_known texts = omega arith
kind_known nodes = omega arith
kind_known references = omega arith
kind_known cells = omega arith

-- a record has one of the kinds
pub one_kind : (k : ℕ) → Known k → cond (eqb k 1) 1 0 + cond (eqb k 2) 1 0 + cond (eqb k 3) 1 0 + cond (eqb k 4) 1 0 + cond (eqb k 5) 1 0 ≡ 1
one_kind = by_kind _ refl refl refl refl refl

-- the list of first places has each at the kind's number
pub starts_at : (c : Counts) (k : ℕ) → Known k → get_or (starts_of c) k 0 ≡ start_for c k
starts_at c = by_kind _ refl refl refl refl refl

module _ (s : List ℕ) where
  pub count_for_lem : (k : ℕ) → Known k → count_for (counts_of s) k ≡ count_of s k
  unfolding count_for counts_of
  count_for_lem = by_kind _ refl refl refl refl refl

  -- from the kind's start on, the finder is the records of the kind, and more
  pub kind_starts : (k : ℕ) → Known k → Stands (finder_of s) (start_for (counts_of s) k) (of_kind s k)
  unfolding finder_of start_for counts_of
  kind_starts =
      let texts-start = drop-append_seam (of_kind s 1) _ in
      let nodes-start = behind _ _ (of_kind s 2) _ texts-start in
      let references-start = behind _ _ (of_kind s 3) _ nodes-start in
      let cells-start = behind _ _ (of_kind s 4) _ references-start in
      by_kind (λ k. Stands (finder_of s) (start_for (counts_of s) k) (of_kind s k))
      (record { more = _; there = refl })
      (record { more = _; there = texts-start })
      (record { more = _; there = nodes-start })
      (record { more = _; there = references-start })
      (record { more = []; there = cells-start ∙ sym (append-nil _) })

  -- as many places as the records of the five kinds
  pub finder_length : length (finder_of s) ≡ count_of s 1 + count_of s 2 + count_of s 3 + count_of s 4 + count_of s 5
  unfolding finder_of
  finder_length =
      simp length-append (omega arith)
