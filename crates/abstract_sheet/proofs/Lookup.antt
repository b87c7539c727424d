-- What a sheet has at a number is what is read where the look-up finds it: for any look-up, and for the walk.
-- From `look 4 n ≡ Some at` the law `item_read_by` gives what the sheet by that look-up has at n, `some (reference_at s at)`, and from
-- `look 4 n ≡ None` it gives `none`. Proofs about code cite it through `look_up`.
-- Assumes nothing.
use mathlib.Core.Path.{◌≡◌, refl, sym, ap, ◌∙◌}
use Prim.Native.Nat.{ℕ, ◌<◌}
use native.Mathlib.Omega.{arith}
use mathlib.Core.List.{List}
use mathlib.Core.Option.{some}
use Rattle.walk.specs.Find.{Found}
use Rattle.std.specs.Prelude.{Some, None}
use Rattle.walk.specs.Find.{find, count_of}
use Rattle.walk.proofs.Finding.{find_some, found_below}
use Rattle.records.specs.Records.{geometry_at, text_at, reference_at}
use Rattle.abstract_sheet.specs.Sheet.{node_record_at, cell_record_at, read, sheet_by, sheet_of, Kind, geometries, texts, nodes, references, cells, kind_number, Item, item_at, item}
use Rattle.abstract_sheet.specs.Lookup.{Exists, Located}

-- ---- By any look-up

module _ (look : ℕ → ℕ → Found) where
  by_kind : (kind : Kind) (s : List ℕ) (n : ℕ) → item kind (sheet_by look s) n ≡ read (item_at kind s) (look (kind_number kind) n)
  unfolding sheet_by
  by_kind geometries s n = refl
  by_kind texts s n = refl
  by_kind nodes s n = refl
  by_kind references s n = refl
  by_kind cells s n = refl

  module _ (kind : Kind) (s : List ℕ) (n : ℕ) where
    pub item_read_by : {f : Found} → look (kind_number kind) n ≡ f → item kind (sheet_by look s) n ≡ read (item_at kind s) f
    item_read_by e = by_kind kind s n ∙ ap (read (item_at kind s)) e

    -- what is there is found
    module _ (x : Item kind) where
      by_found : (f : Found) → look (kind_number kind) n ≡ f → read (item_at kind s) f ≡ some x → Located look kind s n x
      by_found (Some at) e h = let q : x ≡ item_at kind s at = cc in record { at = at; found = e; same = q }
      by_found None e h = let z : ◌≡◌ {A = ℕ} 0 1 = cc in absurd (omega arith)

      pub item_located_by : item kind (sheet_by look s) n ≡ some x → Located look kind s n x
      item_located_by e = by_found (look (kind_number kind) n) refl (sym (by_kind kind s n) ∙ e)

-- look-ups that agree on the five kinds give one sheet
pub same_sheet : (look other : ℕ → ℕ → Found) (s : List ℕ) → ((kind : Kind) (n : ℕ) → look (kind_number kind) n ≡ other (kind_number kind) n) → sheet_by look s ≡ sheet_by other s
unfolding sheet_by
same_sheet look other s e =
    λ i. record {
      geometry = λ n. read (geometry_at s) (e geometries n i);
      text = λ n. read (text_at s) (e texts n i);
      node = λ n. read (node_record_at s) (e nodes n i);
      reference = λ n. read (reference_at s) (e references n i);
      cell = λ n. read (cell_record_at s) (e cells n i);
    }

-- ---- By the walk, which counts

module _ (kind : Kind) (s : List ℕ) (n : ℕ) where
  item_read : {f : Found} → find s (kind_number kind) n ≡ f → item kind (sheet_of s) n ≡ read (item_at kind s) f
  unfolding sheet_of
  item_read e = item_read_by (find s) kind s n e

  -- numbers below the count of their kind are there, and no others
  pub item_some : n < count_of s (kind_number kind) → Exists (item kind (sheet_of s) n)
  item_some h = let place = find_some s (kind_number kind) n h in (item_at kind s place.0, item_read place.1)

  module _ (x : Item kind) where
    pub item_located : item kind (sheet_of s) n ≡ some x → Located (find s) kind s n x
    unfolding sheet_of
    item_located e = item_located_by (find s) kind s n x e

    pub item_below : item kind (sheet_of s) n ≡ some x → n < count_of s (kind_number kind)
    item_below e = let l = item_located e in found_below s (kind_number kind) n l.at l.found
