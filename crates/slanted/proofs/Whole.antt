-- THE TWO EXACT PLACEMENTS AGREE on square sheets: the statement is in specs/Whole.antt. A path leads to the same item at both (`leads_same`), since each member of a square sheet's
-- reference keeps their values the same (`whole_steps`). Assumes nothing.
use mathlib.Core.Path.{◌≡◌}
use mathlib.Core.Option.{some}
use Prim.Native.Nat.{ℕ}
use Rattle.geometry.specs.declared.placement.DVec2.{DVec2}
use Rattle.records.specs.declared.PreparedSource.{PreparedSource}
use Rattle.records.specs.declared.PreparedReference.{PreparedReference}
use Rattle.abstract_sheet.specs.Sheet.{Sheet}
use Rattle.exact.specs.Placement as exact
use Rattle.exact.specs.Placement.{ExactPlacement}
use Rattle.exact.specs.Member.{grid_of}
use Rattle.paths.specs.Path.{Path, at_batch, at_text, at_point, step}
use Rattle.paths.specs.Square.{SquareVector, Square, FewMembers}
use Rattle.paths.proofs.Leads.{SameItem, same_batch, same_text, same_point, leads_same}
use Rattle.paths.proofs.Square.{vector_is, reference_grid}
use Rattle.cover.specs.Path as cover
use Rattle.fractions.specs.Placement.{vector_of, FractionPlacement, identity, move}
use Rattle.fractions.specs.Whole.{IsWholeVector, IsWholePlacement}
use Rattle.fractions.proofs.Whole.{vector_whole, whole_steps}
use Rattle.slanted.specs.Path.{Item, member_at}
use Rattle.slanted.specs.Whole.{Agree, batches_agree, texts_agree, points_agree, AgreesOnSquareSheets}

position_whole : (T : ExactPlacement) (U : FractionPlacement) (v : DVec2) → SquareVector v → IsWholePlacement T U → IsWholeVector (exact.move T (exact.vector_of v)) (move U (vector_of v))
position_whole T U v s h = whole_steps.point T U (exact.vector_of v) (vector_of v) h (vector_whole v (exact.vector_of v) (vector_is v s))

module _ (S : Sheet) (square : Square S) (few : FewMembers S) where
  member_keeps : (T : ExactPlacement) (U : FractionPlacement) (n : ℕ) (r : PreparedReference) (column row : ℕ) → S.reference n ≡ some r → IsWholePlacement T U
      → IsWholePlacement (cover.member_at T r column row) (member_at U r column row)
  member_keeps T U n r column row e h = whole_steps.product T _ U _ h (whole_steps.member r.grid (grid_of r.grid) column row (reference_grid S few square n r e))

  -- at related placements an item that a path leads to has one position
  items_agree : {s : PreparedSource} {T : ExactPlacement} {p : Path} {h : cover.Item} {k : Item} → cover.Leads S s T p h → SameItem IsWholePlacement h k → Agree h k
  items_agree (at_batch e) (same_batch w) = batches_agree w
  items_agree (at_text {n = n} {x = x} e) (same_text {T = T} {U = U} w) = texts_agree (position_whole T U x.origin (square.text n x e) w)
  items_agree (at_point {n = n} {j = j} {x = x} e l) (same_point {T = T} {U = U} w) = points_agree (position_whole T U (x.point j) (square.point n x j e l) w)
  items_agree (step o l) w = items_agree l w

pub agrees_on_square_sheets : AgreesOnSquareSheets
agrees_on_square_sheets S square few root p h l =
    let k = leads_same IsWholePlacement cover.member_at member_at S (λ T U n r column row e _ _ w. member_keeps S square few T U n r column row e w) identity whole_steps.root l in
    (k.0, k.1, items_agree S square few l k.2)
