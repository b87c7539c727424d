-- How many places a sheet's finder has: as many as the counts say, and in a valid sheet one for each record and at most one for each 26 bytes.
-- Assumes nothing.
use mathlib.Core.Path.{◌≡◌, refl, ap, ◌∙◌}
use mathlib.Core.List.{List, [], ◌∷◌}
use Prim.Native.Nat.{ℕ, zero, suc, ◌+◌, ◌*◌, ◌≤◌}
use native.Mathlib.Omega.{arith}
use lib.ListN.{length}
use Rattle.walk.specs.Offsets.{length_at, kind_at, offsets_from, offsets}
use Rattle.walk.specs.Every.{All}
use Rattle.walk.specs.Find.{of_kind_in, count_in}
use Rattle.walk.proofs.Offsets.{by_order, offsets_within, offsets_more, offsets_end, offsets_some}
use Rattle.walk.proofs.Every.{all_step}
use Rattle.walk.proofs.Finding.{count_step}
use Rattle.records.specs.Format.{text, end_of}
use Rattle.check_record.specs.Shape.{lists_at}
use Rattle.check_record.specs.Record.{Right}
use Rattle.check_record.proofs.Facts.Lengths.{Sized, shape_sized, shape_known}
use Rattle.check_sheet.specs.Count.{counts_of}
use Rattle.check_sheet.proofs.Valid.{valid_from_start}
use Rattle.look_up.specs.Places.{count_for, start_for}
use Rattle.finder.specs.Statements.{PlacesAreTheCounts, AsManyPlacesAsRecords, OnlyAnEmptySheetHasAnEmptyFinder, PlacesByTheBytes}
use Rattle.finder.proofs.ByKind.{by_kind, one_kind, finder_length}

module _ (s : List ℕ) where
  -- ---- As many places as records

  counted : (xs : List ℕ) → All (Right s) xs → count_in s 1 xs + count_in s 2 xs + count_in s 3 xs + count_in s 4 xs + count_in s 5 xs ≡ length xs
  unfolding of_kind_in
  counted [] h = refl
  counted (at ∷ xs) h =
      omega (
        arith,
        counted xs h.1,
        one_kind (kind_at s at) (shape_known s at h.0.shape),
        count_step s 1 at xs,
        count_step s 2 at xs,
        count_step s 3 at xs,
        count_step s 4 at xs,
        count_step s 5 at xs,
      )

  -- ---- No record is shorter than a text without value bytes

  least : (at : ℕ) → Right s at → end_of text ≤ length_at s at
  least at right =
      let sized = shape_sized s at right.shape in
      by_kind (λ k. Sized k (length_at s at) (lists_at s at) → end_of text ≤ length_at s at)
      (λ z. omega (arith, z.geometry refl))
      (λ z. (z.text refl).0)
      (λ z. omega (arith, (z.node refl).0))
      (λ z. omega (arith, z.reference refl))
      (λ z. omega (arith, z.cell refl))
      (kind_at s at) (shape_known s at right.shape) sized

  -- the bytes from an offset on, of which there are at most n
  bytes_left : (n at : ℕ) → length s ≤ at + n → at ≤ length s → All (Right s) (offsets_from s at) → end_of text * length (offsets_from s at) + at ≤ length s
  bytes_left zero at h g right = omega (arith, ap length (offsets_end s at (omega arith)))
  bytes_left (suc n) at h g right =
      by_order (length s) at
      (λ past. omega (arith, ap length (offsets_end s at past)))
      (λ within.
      let step = all_step s (Right s) at (λ r. r.whole.head) right within in
      let more = bytes_left n (at + length_at s at) (omega (arith, step.0.whole)) (omega (arith, step.0.whole)) step.1 in
      omega (arith, least at step.0, ap length (offsets_more s at within step.0.whole.head)))

pub places_are_the_counts : PlacesAreTheCounts
unfolding count_for start_for counts_of
places_are_the_counts s = finder_length s

pub as_many_places_as_records : AsManyPlacesAsRecords
as_many_places_as_records s valid = finder_length s ∙ counted s (offsets s) valid.records

pub only_an_empty_sheet_has_an_empty_finder : OnlyAnEmptySheetHasAnEmptyFinder
only_an_empty_sheet_has_an_empty_finder s valid none =
    by_order (length s) 0
    (λ h. omega arith)
    (λ h. let first = offsets_some s 0 h in absurd (omega (arith, as_many_places_as_records s valid, ap length (offsets_within s valid.short), ap length first.1)))

pub places_by_the_bytes : PlacesByTheBytes
places_by_the_bytes s valid =
    omega (
      arith,
      as_many_places_as_records s valid,
      ap length (offsets_within s valid.short),
      bytes_left s (length s) 0 (omega arith) (omega arith) (valid_from_start s valid),
    )
