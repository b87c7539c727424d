-- THE ABSTRACT SHEET: what document 01's "The sheet a reader opens" says that the bytes hold. For each kind, what stands at a number, if
-- anything does. The rules of a plan speak of this sheet and of no offset.
-- Definitions only. Assumes nothing.
use Rattle.std.specs.Prelude.{ℕ, List}
use Rattle.std.proofs.Math.Option.{Option, none, some}
use Rattle.geometry.specs.declared.placement.DVec2.{DVec2}
use Rattle.geometry.specs.declared.bbox.Bounds.{Bounds}
use Rattle.walk.specs.Find.{Found}
use Rattle.std.specs.Prelude.{Some, None}
use Rattle.walk.specs.Find.{find}
use Rattle.records.specs.declared.PreparedGeometry.{PreparedGeometry}
use Rattle.records.specs.declared.PreparedText.{PreparedText}
use Rattle.records.specs.declared.PreparedSource.{PreparedSource}
use Rattle.records.specs.declared.PreparedSource.TheVariants.{Geometry, Text, Node, Reference, Cell}
use Rattle.records.specs.declared.PreparedReference.{PreparedReference}
use Rattle.records.specs.declared.PreparedCell.{PreparedCell}
use Rattle.records.specs.Records.{geometry_at, text_at, node_at, node_point_at, reference_at, cell_at, cell_geometry_at, cell_text_at, cell_node_at, cell_reference_at}

-- ---- What a sheet holds

-- a list of a cell: how many numbers there are, and the number at a list place
pub record Numbers : Type 0 where
  pub count : ℕ
  pub at : ℕ → ℕ

-- a node: its points are counted from 0
pub record NodeRecord : Type 0 where
  pub layer : ℕ
  pub node_type : ℕ
  pub count : ℕ
  pub point : ℕ → DVec2

-- a cell, with its four lists
pub record CellRecord : Type 0 where
  pub direct_draw_units : ℕ
  pub bbox : Bounds
  pub geometries : Numbers
  pub texts : Numbers
  pub nodes : Numbers
  pub references : Numbers

-- "Items count from 0 within their kind." A number that the sheet lacks has `none`.
pub record Sheet : Type 0 where
  pub geometry : ℕ → Option PreparedGeometry
  pub text : ℕ → Option PreparedText
  pub node : ℕ → Option NodeRecord
  pub reference : ℕ → Option PreparedReference
  pub cell : ℕ → Option CellRecord

-- ---- The sheet of some bytes

-- the node and the cell at an offset
unfoldable pub node_record_at : List ℕ → ℕ → NodeRecord
node_record_at s at =
    record {
      layer = (node_at s at).layer;
      node_type = (node_at s at).node_type;
      count = (node_at s at).points;
      point = node_point_at s at;
    }

-- (with what the record says beside its lists)
abbrev pub cell_record_with : List ℕ → ℕ → PreparedCell → CellRecord
cell_record_with s at c =
    record {
      direct_draw_units = c.direct_draw_units;
      bbox = c.bbox;
      geometries = record { count = c.geometries; at = cell_geometry_at s at };
      texts = record { count = c.texts; at = cell_text_at s at };
      nodes = record { count = c.nodes; at = cell_node_at s at };
      references = record { count = c.references; at = cell_reference_at s at };
    }

unfoldable pub cell_record_at : List ℕ → ℕ → CellRecord
cell_record_at s at = cell_record_with s at (cell_at s at)

-- what stands where a look-up found something
abbrev pub read : {A : Type 0} → (ℕ → A) → Found → Option A
read f (Some at) = some (f at)
read f None = none

-- The sheet as a look-up gives it: `look kind n` says where the record of a kind with a number is.
-- "1 batch", "2 text", "3 node", "4 reference", "5 cell"
unfoldable pub sheet_by : (ℕ → ℕ → Found) → List ℕ → Sheet
sheet_by look s =
    record {
      geometry = λ n. read (geometry_at s) (look 1 n);
      text = λ n. read (text_at s) (look 2 n);
      node = λ n. read (node_record_at s) (look 3 n);
      reference = λ n. read (reference_at s) (look 4 n);
      cell = λ n. read (cell_record_at s) (look 5 n);
    }

-- the sheet itself: what the walk finds
unfoldable pub sheet_of : List ℕ → Sheet
sheet_of s = sheet_by (find s) s

-- ---- The same by kind, so that one law serves all five

pub data Kind : Type 0 where
  geometries texts nodes references cells : Kind

-- the number of a kind in document 01's table, and of a reference's source
abbrev pub kind_number : Kind → ℕ
kind_number geometries = 1
kind_number texts = 2
kind_number nodes = 3
kind_number references = 4
kind_number cells = 5

-- what a record of a kind is, what it is at an offset, and what a sheet has at a number
abbrev pub Item : Kind → Type 0
Item geometries = PreparedGeometry
Item texts = PreparedText
Item nodes = NodeRecord
Item references = PreparedReference
Item cells = CellRecord

abbrev pub item_at : (kind : Kind) → List ℕ → ℕ → Item kind
item_at geometries = geometry_at
item_at texts = text_at
item_at nodes = node_record_at
item_at references = reference_at
item_at cells = cell_record_at

abbrev pub item : (kind : Kind) → Sheet → ℕ → Option (Item kind)
item geometries t = t.geometry
item texts t = t.text
item nodes t = t.node
item references t = t.reference
item cells t = t.cell

-- a cell's list of a kind; a cell lists no cells
abbrev pub numbers : Kind → CellRecord → Numbers
numbers geometries c = c.geometries
numbers texts c = c.texts
numbers nodes c = c.nodes
numbers references c = c.references
numbers cells c = record { count = 0; at = λ i. 0 }

-- a reference's source of a kind
abbrev pub source : Kind → ℕ → PreparedSource
source geometries n = Geometry n
source texts n = Text n
source nodes n = Node n
source references n = Reference n
source cells n = Cell n
