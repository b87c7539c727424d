-- "the offset of every record, by kind and then by number": each record that is found by its number has its place in the finder.
-- Assumes nothing.
use mathlib.Core.Path.{◌≡◌, ◌∙◌}
use mathlib.Core.List.{List, [], ◌∷◌}
use mathlib.Core.Option.{some}
use Prim.Native.Nat.{ℕ, zero, suc}
use native.Mathlib.Omega.{arith}
use lib.ListN.{get_or, get_elem?}
use Rattle.walk.specs.Find.{of_kind, find}
use Rattle.std.specs.Prelude.{Some}
use Rattle.walk.proofs.Finding.{found_at, found_below}
use Rattle.abstract_sheet.specs.Sheet.{kind_number}
use Rattle.finder.specs.Statements.{HasPlace, EveryRecordHasItsPlace}
use Rattle.finder.proofs.Stands.{stands_within, stands_nth}
use Rattle.finder.proofs.ByKind.{Known, kind_known, kind_starts}

nth : (xs : List ℕ) (n at : ℕ) → get_elem? xs n ≡ some at → get_or xs n 0 ≡ at
nth [] n at e = let z : ◌≡◌ {A = ℕ} 0 1 = cc in absurd (omega arith)
nth (x ∷ xs) zero at e = cc
nth (x ∷ xs) (suc n) at e = nth xs n at e

pub known_place : (s : List ℕ) (kind n at : ℕ) → Known kind → find s kind n ≡ Some at → HasPlace s kind n at
known_place s kind n at known e =
    let stands = kind_starts s kind known in
    let below = found_below s kind n at e in
    record {
      within = stands_within _ _ (of_kind s kind) stands n below;
      holds = stands_nth _ _ (of_kind s kind) stands n below ∙ nth (of_kind s kind) n at (found_at s kind n at e);
    }

pub every_record_has_its_place : EveryRecordHasItsPlace
every_record_has_its_place s kind n at e = known_place s (kind_number kind) n at (kind_known kind) e
