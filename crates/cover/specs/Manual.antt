-- THE MANUAL'S PLACING ALONG A PATH, the statement. The customer's demand 2: "on square sheets, a single member placed as the GDSII manual does". Here through any number of
-- members: every record of kinds 11 to 13 stands where the manual's placing of one member after the other along its path, the innermost first, puts it, in value.
-- True boxes, the view, zoom and hidden layers do not matter.
-- Definitions only; proved in proofs/Manual.antt. Rests on `paths`, with lists of members as placements, and on `exact`'s Manual. Assumes nothing.
use Rattle.std.specs.Prelude.{◌≡◌, List, [], ◌∷◌, ℕ, ◌≤◌}
use Rattle.geometry.specs.declared.placement.DVec2.{DVec2}
use Rattle.geometry.specs.declared.placement.Placement.{Placement}
use Rattle.records.specs.declared.PreparedGeometry.{PreparedGeometry}
use Rattle.records.specs.declared.PreparedText.{PreparedText}
use Rattle.records.specs.declared.PreparedReference.{PreparedReference}
use Rattle.abstract_sheet.specs.Sheet.{NodeRecord, Sheet, sheet_of}
use Rattle.exact.specs.Placement.{ExactPlacement, IsVector, IsPlacement, vector_of}
use Rattle.exact.specs.Member.{grid_of}
use Rattle.exact.specs.Manual.{SingleReference, single_member, manual_along, PlacesAlong}
use Rattle.plan_rules.specs.Limits.{max_depth}
use Rattle.plan_rules.specs.Event.{Event, batch, text, point}
use Rattle.plan_rules.specs.World.{Query}
use Rattle.plan_rules.specs.Outcome.{outcome_of}
use Rattle.paths.specs.Path.{Path, Item, a_batch, a_text, a_point, LeadsTo}
use Rattle.paths.specs.Square.{Square, FewMembers}
use Rattle.cover.specs.Trace.{Trace, events, All, IsRecord}
use Rattle.cover.specs.Demand3.{IsTape}

-- ---- the members along a path

-- the members from an item outwards, as single references of the manual
abbrev pub Members : Type 0
Members = List SingleReference

abbrev pub through_member : Members → PreparedReference → ℕ → ℕ → Members
through_member outer r column row = single_member (grid_of r.grid) column row ∷ outer

-- ---- one record

-- A text or point stands where its members put its position; a batch's placement puts every point of the batch where they do.
pub data StandsByManual : Item Members → Event → Type 0 where
  batch_stands : {n : ℕ} {g : PreparedGeometry} {members : Members} {p : Placement} (T : ExactPlacement) → IsPlacement p T → PlacesAlong T members → StandsByManual (a_batch n g members) (batch n p)
  text_stands : {n : ℕ} {x : PreparedText} {members : Members} {v : DVec2} → IsVector v (manual_along members (vector_of x.origin)) → StandsByManual (a_text n x members) (text n v)
  point_stands : {n j : ℕ} {x : NodeRecord} {members : Members} {v : DVec2} → IsVector v (manual_along members (vector_of (x.point j)))
      → StandsByManual (a_point n x j members) (point x.layer x.node_type v)

-- the record is that of the item to which its path leads, and stands so; at the root there is no member
abbrev pub StandsAlongItsPath : Sheet → Query → Path → Event → Type 0
StandsAlongItsPath S q p e = (h : Item Members) × LeadsTo through_member S [] q.root p h × StandsByManual h e

-- ---- of a plan

abbrev pub PlacedByManual : Sheet → Query → Trace → Type 0
PlacedByManual S q trace = All (λ (x : Path × Event). IsRecord x.1 → StandsAlongItsPath S q x.0 x.1) trace

-- of the rules, whatever stands in the lent counts and marks
abbrev pub ManualAlongPathOfRules : Type 0
ManualAlongPathOfRules = (S : Sheet) → Square S → FewMembers S → (q : Query) → q.depth ≤ max_depth → (cells : ℕ) (counts marks : List ℕ) → PlacedByManual S q (events S cells q counts marks)

-- of the bytes that an accepted call leaves
abbrev pub ManualAlongPath : Type 0
ManualAlongPath = (sheet : List ℕ) (q : Query) (out counts marks : List ℕ) → Square (sheet_of sheet)
    → let o = outcome_of sheet q out counts marks in o.number ≡ 0 → (trace : Trace) × IsTape sheet q o trace out × PlacedByManual (sheet_of sheet) q trace
