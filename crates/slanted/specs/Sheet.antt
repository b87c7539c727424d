-- SLANTED SHEETS. Document 02, paper 14: "Let all positions and spacings be within ±2^24, columns and rows at most 1,024, magnification 0 to 1, and cos and sin within ±1."
-- Positions are those of texts, node points and references; of boxes nothing is asked. Said of the records that the sheet has. Definitions only. Assumes nothing.
use Rattle.std.specs.Prelude.{◌≡◌, ℕ, ◌<◌}
use Rattle.std.proofs.Math.Option.{some}
use Rattle.records.specs.declared.PreparedText.{PreparedText}
use Rattle.records.specs.declared.PreparedReference.{PreparedReference}
use Rattle.abstract_sheet.specs.Sheet.{NodeRecord, Sheet}
use Rattle.fractions.specs.Bounds.{SlantedVector, SlantedGrid}

pub record SlantedSheet (S : Sheet) : Type 0 where
  pub text : (n : ℕ) (x : PreparedText) → S.text n ≡ some x → SlantedVector x.origin
  pub point : (n : ℕ) (x : NodeRecord) (j : ℕ) → S.node n ≡ some x → j < x.count → SlantedVector (x.point j)
  pub grid : (n : ℕ) (r : PreparedReference) → S.reference n ≡ some r → SlantedGrid r.grid
