-- A well-formed sheet: what document 01's questions 3 to 7 say of the records, in the words of the abstract sheet.
-- Definitions only. Assumes nothing.
use Rattle.std.specs.Prelude.{◌≡◌, true, List, ℕ, ◌≤◌, ◌<◌, Float}
use Rattle.std.proofs.Math.Option.{some}
use Rattle.floats.specs.Order.{is_finite}
use Rattle.geometry.specs.declared.placement.DVec2.{DVec2}
use Rattle.geometry.specs.declared.bbox.WorldBBox.{WorldBBox}
use Rattle.geometry.specs.declared.bbox.Bounds.{Bounds}
use Rattle.geometry.specs.declared.bbox.Bounds.TheVariants.{Absent, Box}
use Rattle.grid.specs.declared.Grid.{Grid}
use Rattle.records.specs.declared.PreparedGeometry.{PreparedGeometry}
use Rattle.records.specs.declared.PreparedText.{PreparedText}
use Rattle.records.specs.declared.PreparedSource.TheVariants.{Reference, Cell}
use Rattle.records.specs.declared.PreparedReference.{PreparedReference}
use Rattle.records.specs.Sources.{no_label}
use Rattle.records.specs.Format.{max_grid_side, max_points, max_cells}
use Rattle.abstract_sheet.specs.Sheet.{Sheet, NodeRecord, CellRecord, Kind, kind_number, item, numbers, source, sheet_of}
use Rattle.abstract_sheet.specs.Lookup.{Exists}
use Rattle.check_sheet.specs.Valid.{Valid}

-- ---- Question 7: "Does every number in a cell, and every source but a cell source, name an existing record, and a reference source an earlier one?"

-- what a cell lists, list by list
abbrev pub CellNamed : Sheet → CellRecord → Type 0
CellNamed t c = (kind : Kind) (i : ℕ) → i < (numbers kind c).count → Exists (item kind t ((numbers kind c).at i))

-- what reference n names
pub record SourceNamed (t : Sheet) (n : ℕ) (r : PreparedReference) : Type 0 where
  pub exists : (kind : Kind) (m : ℕ) → kind_number kind < 5 → r.source ≡ source kind m → Exists (item kind t m)
  pub earlier : (m : ℕ) → r.source ≡ Reference m → m < n

-- ---- Questions 3, 4 and 6: the limits

-- "columns and rows at most 32,767", "a cell source below FFFFFFFF (hexadecimal)"
pub record ReferenceLimits (r : PreparedReference) : Type 0 where
  pub columns : r.grid.columns ≤ max_grid_side
  pub rows : r.grid.rows ≤ max_grid_side
  pub cell_source : (m : ℕ) → r.source ≡ Cell m → m < no_label

-- "1 to 50 points"
pub record NodeLimits (n : NodeRecord) : Type 0 where
  pub least : 1 ≤ n.count
  pub most : n.count ≤ max_points

-- ---- Question 5: "Is every float finite?"

abbrev pub Finite : Float → Type 0
Finite x = is_finite x ≡ true

pub record FinitePoint (p : DVec2) : Type 0 where
  pub x : Finite p.x
  pub y : Finite p.y

pub record FiniteBBox (b : WorldBBox) : Type 0 where
  pub min_x : Finite b.min_x
  pub min_y : Finite b.min_y
  pub max_x : Finite b.max_x
  pub max_y : Finite b.max_y

pub data FiniteBounds : Bounds → Type 0 where
  absent : FiniteBounds Absent
  present : {a b c d : Float} → Finite a → Finite b → Finite c → Finite d → FiniteBounds (Box a b c d)

pub record FiniteGrid (g : Grid) : Type 0 where
  pub origin : FinitePoint g.origin
  pub spacing_x : FinitePoint g.spacing_x
  pub spacing_y : FinitePoint g.spacing_y
  pub magnification : Finite g.magnification
  pub cos : Finite g.cos
  pub sin : Finite g.sin

-- ---- The whole sheet

pub record WellFormed (t : Sheet) : Type 0 where
  pub cell_named : (n : ℕ) (c : CellRecord) → t.cell n ≡ some c → CellNamed t c
  pub source_named : (n : ℕ) (r : PreparedReference) → t.reference n ≡ some r → SourceNamed t n r
  -- "at most 4,096 cells"
  pub few_cells : (n : ℕ) (c : CellRecord) → t.cell n ≡ some c → n < max_cells
  pub reference_limits : (n : ℕ) (r : PreparedReference) → t.reference n ≡ some r → ReferenceLimits r
  pub node_limits : (n : ℕ) (d : NodeRecord) → t.node n ≡ some d → NodeLimits d
  pub geometry_finite : (n : ℕ) (g : PreparedGeometry) → t.geometry n ≡ some g → FiniteBBox g.bbox
  pub text_finite : (n : ℕ) (x : PreparedText) → t.text n ≡ some x → FinitePoint x.origin
  pub node_finite : (n : ℕ) (d : NodeRecord) → t.node n ≡ some d → (i : ℕ) → i < d.count → FinitePoint (d.point i)
  pub grid_finite : (n : ℕ) (r : PreparedReference) → t.reference n ≡ some r → FiniteGrid r.grid
  pub source_box_finite : (n : ℕ) (r : PreparedReference) → t.reference n ≡ some r → FiniteBounds r.source_bbox
  pub cell_box_finite : (n : ℕ) (c : CellRecord) → t.cell n ≡ some c → FiniteBounds c.bbox

-- a sheet that passes questions 1 to 7 is well formed
abbrev pub ValidIsWellFormed : Type 0
ValidIsWellFormed = (s : List ℕ) → Valid s → WellFormed (sheet_of s)
