-- PATHS. Document 01: "A path leads from the root through reference members, of any length, to one item. It names the list place, column and row
-- of each step, the item's list place, and a point's place in its node; an inner reference, or an item that a reference holds directly, has no list place."
-- A path is a list of the rules' steps; the relations here say where it leads. They are open in what a placement is: `member_at` gives that of a member from
-- that of its reference, `origin` is the root's.
-- Definitions only; rests on the abstract sheet and on the rules' steps. Assumes nothing.
use Rattle.std.specs.Prelude.{◌≡◌, List, [], ◌∷◌, ◌++◌, ℕ, suc, ◌<◌}
use Rattle.std.proofs.Math.Option.{some}
use Rattle.records.specs.declared.PreparedSource.{PreparedSource}
use Rattle.records.specs.declared.PreparedSource.TheVariants.{Geometry, Text, Node, Reference, Cell}
use Rattle.records.specs.declared.PreparedGeometry.{PreparedGeometry}
use Rattle.records.specs.declared.PreparedText.{PreparedText}
use Rattle.records.specs.declared.PreparedReference.{PreparedReference}
use Rattle.abstract_sheet.specs.Sheet.{NodeRecord, CellRecord, Sheet}
use Rattle.plan_rules.specs.Event.{Step, batch_at, text_at, node_at, reference_at, member, point_at}

-- the steps from the root on
abbrev pub Path : Type 0
Path = List Step

-- how many references a path leads through, an inner reference being one
abbrev pub references : Path → ℕ
references [] = 0
references (batch_at i ∷ p) = references p
references (text_at i ∷ p) = references p
references (node_at i ∷ p) = references p
references (reference_at i ∷ p) = references p
references (member column row ∷ p) = suc (references p)
references (point_at j ∷ p) = references p

-- What a path leads to, at its placement: a batch or a text by its number, or the point of a node at a place.
pub data Item (P : Type 0) : Type 0 where
  a_batch : ℕ → PreparedGeometry → P → Item P
  a_text : ℕ → PreparedText → P → Item P
  a_point : ℕ → NodeRecord → ℕ → P → Item P

abbrev pub placement_of : {P : Type 0} → Item P → P
placement_of (a_batch n g T) = T
placement_of (a_text n x T) = T
placement_of (a_point n x j T) = T

module _ {P : Type 0} (member_at : P → PreparedReference → ℕ → ℕ → P) (S : Sheet) where
  -- One step leads from a source at a placement to the next. A cell's lists give a list place; a reference's member gives column and row, and so an inner
  -- reference, or an item that a reference holds directly, is reached by the member's step alone.
  pub data StepLeads : PreparedSource → P → Step → PreparedSource → P → Type 0 where
    to_batch : {n i : ℕ} {T : P} {c : CellRecord} → S.cell n ≡ some c → i < c.geometries.count → StepLeads (Cell n) T (batch_at i) (Geometry (c.geometries.at i)) T
    to_text : {n i : ℕ} {T : P} {c : CellRecord} → S.cell n ≡ some c → i < c.texts.count → StepLeads (Cell n) T (text_at i) (Text (c.texts.at i)) T
    to_node : {n i : ℕ} {T : P} {c : CellRecord} → S.cell n ≡ some c → i < c.nodes.count → StepLeads (Cell n) T (node_at i) (Node (c.nodes.at i)) T
    to_reference : {n i : ℕ} {T : P} {c : CellRecord} → S.cell n ≡ some c → i < c.references.count → StepLeads (Cell n) T (reference_at i) (Reference (c.references.at i)) T
    through_member_lem : {n column row : ℕ} {T : P} {r : PreparedReference} → S.reference n ≡ some r → column < r.grid.columns → row < r.grid.rows
        → StepLeads (Reference n) T (member column row) r.source (member_at T r column row)

  -- a path from a source at a placement to an item
  pub data Leads : PreparedSource → P → Path → Item P → Type 0 where
    at_batch : {n : ℕ} {T : P} {g : PreparedGeometry} → S.geometry n ≡ some g → Leads (Geometry n) T [] (a_batch n g T)
    at_text : {n : ℕ} {T : P} {x : PreparedText} → S.text n ≡ some x → Leads (Text n) T [] (a_text n x T)
    at_point : {n j : ℕ} {T : P} {x : NodeRecord} → S.node n ≡ some x → j < x.count → Leads (Node n) T (point_at j ∷ []) (a_point n x j T)
    step : {s u : PreparedSource} {T U : P} {k : Step} {p : Path} {h : Item P} → StepLeads s T k u U → Leads u U p h → Leads s T (k ∷ p) h

  module _ (origin : P) (root : ℕ) where
    -- "A path leads from the root .. to one item."
    abbrev pub LeadsTo : Path → Item P → Type 0
    LeadsTo p h = Leads (Cell root) origin p h

    -- the beginning of a path: from the root to a source at its placement
    pub data Reaches : Path → PreparedSource → P → Type 0 where
      at_root : Reaches [] (Cell root) origin
      further : {p : Path} {s u : PreparedSource} {T U : P} {k : Step} → Reaches p s T → StepLeads s T k u U → Reaches (p ++ k ∷ []) u U

-- a path's references are the members that it passes: where a placement is their number, the path leads to its item at that
abbrev pub CountsMembers : Type 0
CountsMembers = (S : Sheet) (root : ℕ) (p : Path) (h : Item ℕ) → LeadsTo (λ passed r column row. suc passed) S 0 root p h → placement_of h ≡ references p
