-- PAPER 14 AND DEMAND 3 SPEAK OF ONE PLACEMENT on square sheets, the statement. Paper 14 measures from the exact placement on fractions, demand 3 from the exact whole-number placement;
-- where a sheet is square both lead each path to the same item at the same position, in value. Definitions only; proved in proofs/Whole.antt. Assumes nothing.
use Rattle.std.specs.Prelude.{ℕ}
use Rattle.records.specs.declared.PreparedGeometry.{PreparedGeometry}
use Rattle.records.specs.declared.PreparedText.{PreparedText}
use Rattle.abstract_sheet.specs.Sheet.{NodeRecord, Sheet}
use Rattle.exact.specs.Placement.{ExactPlacement}
use Rattle.paths.specs.Path.{Path, a_batch, a_text, a_point}
use Rattle.paths.specs.Square.{Square, FewMembers}
use Rattle.cover.specs.Path as cover
use Rattle.cover.specs.View.{text_position, point_position}
use Rattle.fractions.specs.Placement.{vector_of, FractionPlacement, move}
use Rattle.fractions.specs.Whole.{IsWholeVector, IsWholePlacement}
use Rattle.slanted.specs.Path.{Item, LeadsTo}

-- the same text or point at the same exact position, or the same batch at the same exact placement
pub data Agree : cover.Item → Item → Type 0 where
  batches_agree : {n : ℕ} {g : PreparedGeometry} {T : ExactPlacement} {U : FractionPlacement} → IsWholePlacement T U → Agree (a_batch n g T) (a_batch n g U)
  texts_agree : {n : ℕ} {x : PreparedText} {T : ExactPlacement} {U : FractionPlacement} → IsWholeVector (text_position x T) (move U (vector_of x.origin)) → Agree (a_text n x T) (a_text n x U)
  points_agree : {n j : ℕ} {x : NodeRecord} {T : ExactPlacement} {U : FractionPlacement} → IsWholeVector (point_position x j T) (move U (vector_of (x.point j))) → Agree (a_point n x j T) (a_point n x j U)

-- k is the one item to which the path leads (`OnePlacement`)
abbrev pub AgreesOnSquareSheets : Type 0
AgreesOnSquareSheets = (S : Sheet) → Square S → FewMembers S → (root : ℕ) (p : Path) (h : cover.Item) → cover.LeadsTo S root p h → (k : Item) × LeadsTo S root p k × Agree h k
