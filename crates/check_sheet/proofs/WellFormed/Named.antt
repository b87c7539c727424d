-- A valid sheet's numbers name existing records, and a reference source is an earlier reference.
-- Assumes nothing.
use mathlib.Core.Path.{◌≡◌, refl, sym, ap, ap₂, ◌∙◌, subst}
use mathlib.Core.Bool.{true}
use Prim.Native.Nat.{ℕ, ◌<◌}
use native.Mathlib.Omega.{arith}
use mathlib.Core.List.{List}
use mathlib.Core.Option.{some}
use Rattle.std.specs.Prelude.{Some}
use Rattle.walk.specs.Find.{find}
use Rattle.walk.proofs.Finding.{found_below}
use Rattle.records.specs.declared.PreparedSource.TheVariants.{Cell}
use Rattle.records.specs.declared.PreparedReference.{PreparedReference}
use Rattle.records.specs.Format as field
use Rattle.records.specs.Format.{reference, field_at}
use Rattle.records.specs.Records.{source_of, reference_at}
use Rattle.records.specs.Sources.{source_kind, source_number}
use Rattle.records.proofs.Sources.{source_kind_lem, source_number_lem}
use Rattle.abstract_sheet.specs.Sheet.{CellRecord, sheet_of, Kind, geometries, texts, nodes, references, cells, kind_number, source}
use Rattle.abstract_sheet.proofs.Lookup.{item_some, item_located}
use Rattle.check_sheet.specs.Count.{counts_of}
use Rattle.check_sheet.specs.Links.{source_named}
use Rattle.check_sheet.specs.Valid.{Valid}
use Rattle.check_sheet.specs.WellFormed.{CellNamed, SourceNamed}
use Rattle.check_sheet.proofs.WellFormed.Found.{found_grid_ok}
use Rattle.check_sheet.proofs.WellFormed.Linked.{source_asked, source_exists, source_earlier, listed_below}

-- a source of a kind has the kind and the number
kind_of_source : (kind : Kind) (m : ℕ) → source_kind (source kind m) ≡ kind_number kind
kind_of_source geometries m = refl
kind_of_source texts m = refl
kind_of_source nodes m = refl
kind_of_source references m = refl
kind_of_source cells m = refl

number_of_source : (kind : Kind) (m : ℕ) → source_number (source kind m) ≡ m
number_of_source geometries m = refl
number_of_source texts m = refl
number_of_source nodes m = refl
number_of_source references m = refl
number_of_source cells m = refl

module _ (s : List ℕ) (valid : Valid s) where
  pub cell_named : (n : ℕ) (c : CellRecord) → (sheet_of s).cell n ≡ some c → CellNamed (sheet_of s) c
  cell_named n c e =
      let l = item_located cells s n c e in
      subst (CellNamed (sheet_of s)) (sym l.same) (λ kind i h. item_some kind s _ (listed_below s valid n l.at l.found kind i h))

  module _ (n : ℕ) (r : PreparedReference) (e : (sheet_of s).reference n ≡ some r) where
    -- the record's offset
    abbrev at : ℕ
    at = (item_located references s n r e).at

    found : find s 4 n ≡ Some at
    found = (item_located references s n r e).found

    in_record : r.source ≡ source_of (field_at reference field.source_kind s at) (field_at reference field.source_number s at)
    unfolding reference_at
    in_record = ap (λ (x : PreparedReference). x.source) (item_located references s n r e).same

    module _ (kind : Kind) (m : ℕ) (given : r.source ≡ source kind m) where
      kind_read : field_at reference field.source_kind s at ≡ kind_number kind
      kind_read =
          let grid = found_grid_ok s valid n at found in
          sym (source_kind_lem _ (field_at reference field.source_number s at) grid.source_least grid.source_most)
          ∙ ap source_kind (sym in_record ∙ given) ∙ kind_of_source kind m

      number_read : field_at reference field.source_number s at ≡ m
      number_read = sym (source_number_lem (field_at reference field.source_kind s at) _) ∙ ap source_number (sym in_record ∙ given) ∙ number_of_source kind m

      asked : source_named (kind_number kind) m (counts_of s) n ≡ true
      asked = sym (ap₂ (λ (k i : ℕ). source_named k i (counts_of s) n) kind_read number_read) ∙ source_asked s valid n at found

    pub source_named_lem : SourceNamed (sheet_of s) n r
    source_named_lem =
        record {
          exists = λ kind m h g. item_some kind s m (source_exists s n m kind h (found_below s 4 n at found) (asked kind m g));
          earlier = λ m g. source_earlier (counts_of s) n m (asked references m g);
        }

    -- "a cell source below FFFFFFFF (hexadecimal)"
    pub cell_source_below : (m : ℕ) → r.source ≡ Cell m → m < 0xffffffff
    cell_source_below m g = omega (arith, number_read cells m g, (found_grid_ok s valid n at found).cell_source (kind_read cells m g))
