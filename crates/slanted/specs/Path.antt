-- PATHS at exact placements on fractions: the relations of `paths`, where a member's placement is the exact product and the root stands at the identity. Document 02, paper 14: "the
-- exact placement of that same path (document 01's steps without their rounding)". Definitions only. Assumes nothing.
use Rattle.std.specs.Prelude.{ℕ}
use Rattle.records.specs.declared.PreparedReference.{PreparedReference}
use Rattle.abstract_sheet.specs.Sheet.{Sheet}
use Rattle.paths.specs.Path as paths
use Rattle.paths.specs.Path.{Path}
use Rattle.fractions.specs.Placement.{FractionPlacement, identity, ◌∘◌, member_placement}

-- what a path leads to, at its exact placement
abbrev pub Item : Type 0
Item = paths.Item FractionPlacement

-- the exact placement of a reference's member, where the reference stands at T
abbrev pub member_at : FractionPlacement → PreparedReference → ℕ → ℕ → FractionPlacement
member_at T r column row = T ∘ member_placement r.grid column row

abbrev pub LeadsTo : Sheet → ℕ → Path → Item → Type 0
LeadsTo S = paths.LeadsTo member_at S identity
