-- WHERE A VISIT STANDS, at placements of any kind, as `paths`: its tag is a way from the root to its source at the placement T, and the visit's floats are near T in whatever sense
-- every member keeps. The sense may speak of the depth that is left and of how many references the tag leads through.
-- Assumes nothing.
use mathlib.Core.Path.{◌≡◌}
use mathlib.Core.List.{List, ◌∷◌}
use mathlib.Core.Option.{some}
use Prim.Native.Nat.{ℕ, suc, ◌<◌}
use Rattle.geometry.specs.declared.placement.Placement.{Placement}
use Rattle.geometry.specs.Placement.{◌·◌}
use Rattle.grid.specs.Grid.{grid_member_transform}
use Rattle.records.specs.declared.PreparedSource.{PreparedSource}
use Rattle.records.specs.declared.PreparedSource.TheVariants.{Geometry, Text, Node, Reference, Cell}
use Rattle.records.specs.declared.PreparedReference.{PreparedReference}
use Rattle.abstract_sheet.specs.Sheet.{CellRecord, Sheet}
use Rattle.plan_rules.specs.Event.{Step, batch_at, text_at, node_at, reference_at, member}
use Rattle.paths.specs.Path.{references, to_batch, to_text, to_node, to_reference, through_member_lem}
use Rattle.cover.proofs.TagPaths.{TagLeads, on}

module _ {P : Type 0} (member_at : P → PreparedReference → ℕ → ℕ → P) (S : Sheet) (origin : P) (root : ℕ) (Near : ℕ → ℕ → Placement → P → Type 0) where
  pub record Stands (d : ℕ) (t : List Step) (s : PreparedSource) (p : Placement) : Type 0 where
    pub exact : P
    pub led : TagLeads member_at S origin root t s exact
    pub near : Near d (references t) p exact

  -- every member keeps it so, one level further down
  abbrev pub Keeps : Type 0
  Keeps = (d level : ℕ) (p : Placement) (T : P) (n : ℕ) (r : PreparedReference) (column row : ℕ) → Near (suc d) level p T → S.reference n ≡ some r → column < r.grid.columns → row < r.grid.rows
      → Near d (suc level) (p · grid_member_transform r.grid column row) (member_at T r column row)

  -- ---- a step further

  pub stands_batch : (d : ℕ) (t : List Step) (n : ℕ) (c : CellRecord) (i : ℕ) (p : Placement) → Stands d t (Cell n) p → S.cell n ≡ some c → i < c.geometries.count
      → Stands d (batch_at i ∷ t) (Geometry (c.geometries.at i)) p
  stands_batch d t n c i p h e l = record { exact = h.exact; led = on h.led (to_batch e l); near = h.near }

  pub stands_text : (d : ℕ) (t : List Step) (n : ℕ) (c : CellRecord) (i : ℕ) (p : Placement) → Stands d t (Cell n) p → S.cell n ≡ some c → i < c.texts.count
      → Stands d (text_at i ∷ t) (Text (c.texts.at i)) p
  stands_text d t n c i p h e l = record { exact = h.exact; led = on h.led (to_text e l); near = h.near }

  pub stands_node : (d : ℕ) (t : List Step) (n : ℕ) (c : CellRecord) (i : ℕ) (p : Placement) → Stands d t (Cell n) p → S.cell n ≡ some c → i < c.nodes.count
      → Stands d (node_at i ∷ t) (Node (c.nodes.at i)) p
  stands_node d t n c i p h e l = record { exact = h.exact; led = on h.led (to_node e l); near = h.near }

  pub stands_reference : (d : ℕ) (t : List Step) (n : ℕ) (c : CellRecord) (i : ℕ) (p : Placement) → Stands d t (Cell n) p → S.cell n ≡ some c → i < c.references.count
      → Stands d (reference_at i ∷ t) (Reference (c.references.at i)) p
  stands_reference d t n c i p h e l = record { exact = h.exact; led = on h.led (to_reference e l); near = h.near }

  pub stands_member : Keeps → (d : ℕ) (t : List Step) (n : ℕ) (r : PreparedReference) (x y : ℕ) (p : Placement) → Stands (suc d) t (Reference n) p → S.reference n ≡ some r
      → x < r.grid.columns → y < r.grid.rows → Stands d (member x y ∷ t) r.source (p · grid_member_transform r.grid x y)
  stands_member keeps d t n r x y p h e x< y< =
      record { exact = member_at h.exact r x y; led = on h.led (through_member_lem e x< y<); near = keeps d (references t) p h.exact n r x y h.near e x< y< }
