-- PATHS at exact placements: the relations of `paths`, where a member's placement is the exact product and the root stands at the identity.
-- Definitions only; rests on `paths` and on exact placements. Assumes nothing.
use Rattle.std.specs.Prelude.{ℕ}
use Rattle.records.specs.declared.PreparedSource.{PreparedSource}
use Rattle.records.specs.declared.PreparedReference.{PreparedReference}
use Rattle.abstract_sheet.specs.Sheet.{Sheet}
use Rattle.exact.specs.Placement.{ExactPlacement, identity, ◌∘◌}
use Rattle.exact.specs.Member.{member_placement, grid_of}
use Rattle.plan_rules.specs.Event.{Step}
use Rattle.paths.specs.Path as paths
pub use Rattle.paths.specs.Path.{Path, a_batch, a_text, a_point, to_batch, to_text, to_node, to_reference, through_member_lem, at_batch, at_text, at_point, step, at_root, further}

-- what a path leads to, at its exact placement
abbrev pub Item : Type 0
Item = paths.Item ExactPlacement

-- the exact placement of a reference's member, where the reference stands at T
abbrev pub member_at : ExactPlacement → PreparedReference → ℕ → ℕ → ExactPlacement
member_at T r column row = T ∘ member_placement (grid_of r.grid) column row

module _ (S : Sheet) where
  abbrev pub StepLeads : PreparedSource → ExactPlacement → Step → PreparedSource → ExactPlacement → Type 0
  StepLeads = paths.StepLeads member_at S

  abbrev pub Leads : PreparedSource → ExactPlacement → Path → Item → Type 0
  Leads = paths.Leads member_at S

  abbrev pub LeadsTo : ℕ → Path → Item → Type 0
  LeadsTo = paths.LeadsTo member_at S identity

  abbrev pub Reaches : ℕ → Path → PreparedSource → ExactPlacement → Type 0
  Reaches = paths.Reaches member_at S identity
