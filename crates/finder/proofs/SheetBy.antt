-- "Planning with the sheet's own finder and planning without one agree": each look-up finds what the walk finds, so that both give the sheet.
-- Assumes nothing.
use mathlib.Core.Path.{◌≡◌, refl, sym, ap, ◌∙◌}
use mathlib.Core.Bool.{true}
use mathlib.Core.List.{List, []}
use Prim.Native.Nat.{ℕ, ◌+◌}
use native.Mathlib.Decide.{ℕ_discrete}
use native.Mathlib.Omega.{arith}
use lib.ListN.{length}
use Rattle.walk.specs.Find.{count_of, find}
use Rattle.std.specs.Prelude.{Some}
use Rattle.walk.proofs.Offsets.{by_order}
use Rattle.walk.proofs.Finding.{find_some, find_none}
use Rattle.abstract_sheet.specs.Sheet.{sheet_of, Kind, kind_number}
use Rattle.abstract_sheet.proofs.Lookup.{same_sheet}
use Rattle.check_sheet.specs.Count.{counts_of}
use Rattle.look_up.specs.Places.{start_for}
use Rattle.look_up.specs.Look.{look_in, look}
use Rattle.look_up.proofs.Looking.{look_hit, look_none, look_walks, look_reads}
use Rattle.finder.specs.Finder.{finder_of, belongs}
use Rattle.finder.specs.Statements.{OwnFinderGivesTheSheet, NoFinderGivesTheSheet}
use Rattle.finder.proofs.Prefix.{starts_place}
use Rattle.finder.proofs.ByKind.{Known, kind_known, count_for_lem}
use Rattle.finder.proofs.RecordPlaces.{known_place}

module _ (s f : List ℕ) (own : belongs f s ≡ true) where
  look_in_finds : (kind n : ℕ) → Known kind → look_in f (counts_of s) kind n ≡ find s kind n
  unfolding belongs
  look_in_finds kind n known =
      by_order (count_of s kind) n
      (λ h. look_none f (counts_of s) kind n (omega (arith, count_for_lem s kind known)) ∙ sym (find_none s kind n h))
      (λ h.
      let found = find_some s kind n h in
      let place = known_place s kind n found.0 known found.1 in
      let here = starts_place f (finder_of s) own (start_for (counts_of s) kind + n) place.within in
      look_hit f (counts_of s) kind n (omega (arith, count_for_lem s kind known)) _ refl here.within
      ∙ ap Some (here.same ∙ place.holds)
      ∙ sym found.1)

  look_finds : (kind : Kind) (n : ℕ) → look s f (counts_of s) (kind_number kind) n ≡ find s (kind_number kind) n
  look_finds kind n =
      elim (ℕ_discrete (length f) 0) [
        | yes h ↦ look_walks f (counts_of s) (kind_number kind) n s h
        | no h ↦ look_reads f (counts_of s) (kind_number kind) n s h ∙ look_in_finds (kind_number kind) n (kind_known kind)
      ]

pub own_finder_gives_the_sheet : OwnFinderGivesTheSheet
unfolding sheet_of
own_finder_gives_the_sheet s f own = same_sheet (look s f (counts_of s)) (find s) s (look_finds s f own)

pub no_finder_gives_the_sheet : NoFinderGivesTheSheet
unfolding sheet_of
no_finder_gives_the_sheet s c = same_sheet (look s [] c) (find s) s (λ kind n. look_walks [] c (kind_number kind) n s refl)
