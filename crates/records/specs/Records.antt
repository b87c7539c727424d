-- What stands in a record of a sheet, by the record's offset: the fields of document 01's table, kind by kind.
-- A byte past the end counts 0, so each definition has an answer at every offset. Definitions only. Assumes nothing.
use Rattle.std.specs.Prelude.{ℕ, ◌+◌, ◌-◌, ◌*◌, ◌/◌, ◌%◌, ◌^◌, List, Bool, cond, eqb}
use Rattle.fields.specs.Field.{uint_at, f64_at}
use Rattle.records.specs.Format as field
use Rattle.records.specs.Format.{f, number_width, geometry, text, node, reference, cell, offset_in, end_of, field_at}
use Rattle.geometry.specs.declared.placement.DVec2.{DVec2}
use Rattle.geometry.specs.declared.bbox.WorldBBox.{WorldBBox}
use Rattle.geometry.specs.declared.bbox.Bounds.{Bounds}
use Rattle.geometry.specs.declared.bbox.Bounds.TheVariants.{Absent, Box}
use Rattle.grid.specs.declared.Grid.{Grid}
use Rattle.records.specs.declared.PreparedGeometry.{PreparedGeometry}
use Rattle.records.specs.declared.PreparedText.{PreparedText}
use Rattle.records.specs.declared.PreparedNode.{PreparedNode}
use Rattle.records.specs.declared.PreparedSource.{PreparedSource}
use Rattle.records.specs.declared.PreparedSource.TheVariants.{Geometry, Text, Node, Reference, Cell}
use Rattle.records.specs.declared.PreparedReference.{PreparedReference}
use Rattle.records.specs.declared.PreparedCell.{PreparedCell}
use Rattle.records.specs.declared.SourceField.{SourceField}
use Rattle.records.specs.declared.ListCounts.{ListCounts}
use Rattle.records.specs.declared.cells.CellList.{CellList}
use Rattle.records.specs.declared.cells.CellList.TheVariants.{Geometries, Texts, Nodes, References}

-- ---- Parts of a body

-- "2 f": a point or a spacing
unfoldable pub dvec2_at : List ℕ → ℕ → DVec2
dvec2_at s at = record { x = f64_at s at; y = f64_at s (at + 8) }

-- "A box is min x, min y, max x, max y."
unfoldable pub world_bbox_at : List ℕ → ℕ → WorldBBox
world_bbox_at s at =
    record {
      min_x = f64_at s at;
      min_y = f64_at s (at + 8);
      max_x = f64_at s (at + 16);
      max_y = f64_at s (at + 24);
    }

-- the box at an offset where it is present
unfoldable pub bounds_at : List ℕ → ℕ → Bool → Bounds
bounds_at s at present = cond present (Box (f64_at s at) (f64_at s (at + 8)) (f64_at s (at + 16)) (f64_at s (at + 24))) Absent

-- a bit of the flags
unfoldable pub bit : ℕ → ℕ → Bool
bit flags place = eqb (flags / 2 ^ place % 2) 1

-- "Source kinds: 1 batch, 2 text, 3 node, 4 reference, 5 cell."
unfoldable pub source_of : ℕ → ℕ → PreparedSource
source_of kind number =
    cond (eqb kind 1) (Geometry number)
    (cond (eqb kind 2) (Text number)
    (cond (eqb kind 3) (Node number)
    (cond (eqb kind 4) (Reference number)
    (Cell number))))

-- ---- The five kinds

-- 1 batch
unfoldable pub geometry_at : List ℕ → ℕ → PreparedGeometry
geometry_at s at =
    record {
      layer = field_at geometry field.layer s at;
      data_type = field_at geometry field.dataType s at;
      element_count = field_at geometry field.elementCount s at;
      bbox = world_bbox_at s (at + offset_in geometry field.box);
    }

-- 2 text
unfoldable pub text_at : List ℕ → ℕ → PreparedText
text_at s at =
    record {
      layer = field_at text field.layer s at;
      data_type = field_at text field.dataType s at;
      origin = dvec2_at s (at + offset_in text field.origin);
    }

-- 3 node: its points fill the rest of it, "2 f" each
abbrev pub points_of : ℕ → ℕ
points_of size = (size - end_of node) / (2 * f)

unfoldable pub node_at : List ℕ → ℕ → PreparedNode
node_at s at =
    record {
      layer = field_at node field.layer s at;
      node_type = field_at node field.nodeType s at;
      points = points_of (uint_at 4 s at);
    }

unfoldable pub node_point_at : List ℕ → ℕ → ℕ → DVec2
node_point_at s at i = dvec2_at s (at + (end_of node + 2 * f * i))

-- 4 reference: "bit 0 reflection, bit 1 source box present"
unfoldable pub grid_at : List ℕ → ℕ → Grid
grid_at s at =
    record {
      columns = field_at reference field.columns s at;
      rows = field_at reference field.rows s at;
      x_reflection = bit (field_at reference field.flags s at) 0;
      origin = dvec2_at s (at + offset_in reference field.origin);
      spacing_x = dvec2_at s (at + offset_in reference field.spacingX);
      spacing_y = dvec2_at s (at + offset_in reference field.spacingY);
      magnification = f64_at s (at + offset_in reference field.magnification);
      cos = f64_at s (at + offset_in reference field.cos);
      sin = f64_at s (at + offset_in reference field.sin);
    }

unfoldable pub reference_at : List ℕ → ℕ → PreparedReference
reference_at s at =
    record {
      grid = grid_at s at;
      source = source_of (field_at reference field.source_kind s at) (field_at reference field.source_number s at);
      source_bbox = bounds_at s (at + offset_in reference field.box) (bit (field_at reference field.flags s at) 1);
    }

-- "source kind 2, source number 4"
abbrev pub source_field_at : List ℕ → ℕ → SourceField
source_field_at s at = record { kind = field_at reference field.source_kind s at; number = field_at reference field.source_number s at }

-- 5 cell: "counts of batches, texts, nodes, references 2 each"
abbrev pub list_counts_at : List ℕ → ℕ → ListCounts
list_counts_at s at =
    record {
      geometries = field_at cell field.geometryCount s at;
      texts = field_at cell field.textCount s at;
      nodes = field_at cell field.nodeCount s at;
      references = field_at cell field.referenceCount s at;
    }

-- "bit 0 box present"
unfoldable pub cell_at : List ℕ → ℕ → PreparedCell
cell_at s at =
    record {
      direct_draw_units = field_at cell field.drawUnits s at;
      bbox = bounds_at s (at + offset_in cell field.box) (bit (field_at cell field.flags s at) 0);
      geometries = (list_counts_at s at).geometries;
      texts = (list_counts_at s at).texts;
      nodes = (list_counts_at s at).nodes;
      references = (list_counts_at s at).references;
    }

-- where the texts, the nodes and the references start among the numbers of a cell: the four lists stand one after the other
unfoldable pub texts_from : List ℕ → ℕ → ℕ
texts_from s at = (list_counts_at s at).geometries

unfoldable pub nodes_from : List ℕ → ℕ → ℕ
nodes_from s at = texts_from s at + (list_counts_at s at).texts

unfoldable pub references_from : List ℕ → ℕ → ℕ
references_from s at = nodes_from s at + (list_counts_at s at).nodes

-- the number at a place among the numbers of a cell, "4 each"
unfoldable pub cell_number_at : List ℕ → ℕ → ℕ → ℕ
cell_number_at s at place = uint_at number_width s (at + (end_of cell + number_width * place))

-- the number at a place of the list of batches, texts, nodes or references
unfoldable pub cell_geometry_at : List ℕ → ℕ → ℕ → ℕ
cell_geometry_at s at i = cell_number_at s at i

unfoldable pub cell_text_at : List ℕ → ℕ → ℕ → ℕ
cell_text_at s at i = cell_number_at s at (texts_from s at + i)

unfoldable pub cell_node_at : List ℕ → ℕ → ℕ → ℕ
cell_node_at s at i = cell_number_at s at (nodes_from s at + i)

unfoldable pub cell_reference_at : List ℕ → ℕ → ℕ → ℕ
cell_reference_at s at i = cell_number_at s at (references_from s at + i)

-- any of the four: where a list starts among the numbers, and the number at a place of it
abbrev pub start_of : CellList → List ℕ → ℕ → ℕ
start_of Geometries s at = 0
start_of Texts s at = texts_from s at
start_of Nodes s at = nodes_from s at
start_of References s at = references_from s at

abbrev pub listed_at : CellList → List ℕ → ℕ → ℕ → ℕ
listed_at list s at i = cell_number_at s at (start_of list s at + i)
