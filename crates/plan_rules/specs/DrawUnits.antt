-- Draw units: `reference_draw_units`, `source_draw_units` and `cell_draw_units` of bevy_scene.rs, over the lent counts and marks.
-- Document 01: "Draw units follow `cell_draw_units`, whose remembered counts are consulted first, even where an open circle made them."
-- One function recurses, on the depth: depth falls by one from a reference to its source.
-- Definitions only; rests on the abstract sheet, `Event` (saturation) and `Scratch`.
use Rattle.std.specs.Prelude.{cond, List, ℕ, zero, suc, ◌+◌, get_or, set, leb, eqb}
use Rattle.std.proofs.Math.Option.{Option, none, some}
use Rattle.grid.specs.Grid.{grid_count}
use Rattle.records.specs.declared.PreparedSource.{PreparedSource}
use Rattle.records.specs.declared.PreparedSource.TheVariants.{Geometry, Text, Node, Reference, Cell}
use Rattle.records.specs.declared.PreparedReference.{PreparedReference}
use Rattle.abstract_sheet.specs.Sheet.{CellRecord, Sheet}
use Rattle.plan_rules.specs.Event.{◌⊞◌, ◌⊠◌}
use Rattle.plan_rules.specs.Scratch.{counting_place, remembered_place, count_place, is_marked}

-- a count, and the counts and the marks after it
pub record Units : Type 0 where
  pub units : ℕ
  pub counts : List ℕ
  pub marks : List ℕ

abbrev pub counted : ℕ → List ℕ → List ℕ → Units
counted n k m = record { units = n; counts = k; marks = m }

-- `count.saturating_mul(source_count)`, where the Rust has `source_count.max(1)`. Document 02, paper 3: "A reference whose source counts 0 units shall count 0".
abbrev pub scaled : ℕ → Units → Units
scaled count u = counted (count ⊠ u.units) u.counts u.marks

-- `iter().fold(..)`: a step for each of `count` numbers from i on
unfoldable pub fold : (ℕ → Units → Units) → ℕ → ℕ → Units → Units
fold step zero i u = u
fold step (suc count) i u = fold step count (i + 1) (step i u)

abbrev pub CountReference : Type 0
CountReference = PreparedReference → List ℕ → List ℕ → Units

abbrev pub CountSource : Type 0
CountSource = PreparedSource → List ℕ → List ℕ → Units

-- by number
abbrev pub CountNumber : Type 0
CountNumber = ℕ → List ℕ → List ℕ → Units

-- `reference_draw_units` at a depth, given how its source is counted at the depth below
unfoldable pub reference_draw_units_with : ℕ → CountSource → CountReference
reference_draw_units_with depth deeper r k m =
    cond (eqb (grid_count r.grid) 0) (counted 0 k m)
    (cond (leb depth 1) (scaled (grid_count r.grid) (counted 1 k m))
    (scaled (grid_count r.grid) (deeper r.source k m)))

-- the reference that a number names, given how a reference is counted. (A number that names none counts 0; no sheet that passes question 7 has one.)
unfoldable pub found_draw_units : CountReference → Option PreparedReference → List ℕ → List ℕ → Units
found_draw_units visit none k m = counted 0 k m
found_draw_units visit (some r) k m = visit r k m

-- `count.saturating_add(self.reference_draw_units(reference, depth))`
unfoldable pub add_reference_units : CountNumber → CellRecord → ℕ → Units → Units
add_reference_units visit c i u =
    let v = visit (c.references.at i) u.counts u.marks in
    counted (u.units ⊞ v.units) v.counts v.marks

module _ (S : Sheet) (cells : ℕ) where
  -- the cell leaves `complexity_stack`, and its count enters `complexity_cache`
  unfoldable pub remember : ℕ → ℕ → Units → Units
  remember depth n u =
      counted u.units
      (set u.counts (count_place cells depth n) u.units)
      (set (set u.marks (counting_place cells n) 0) (remembered_place cells depth n) 1)

  -- `cell_draw_units` at a depth, given how the reference of a number is counted at this depth. A missing cell counts 1 in every case, and has no place in the scratch.
  -- Depth 0 is asked first, since it has no layer: the Rust asks the cache first, which never holds depth 0.
  unfoldable pub cell_draw_units_with : ℕ → CountNumber → ℕ → Option CellRecord → List ℕ → List ℕ → Units
  cell_draw_units_with depth visit n none k m = counted 1 k m
  cell_draw_units_with depth visit n (some c) k m =
      cond (eqb depth 0) (counted 1 k m)
      (cond (is_marked m (remembered_place cells depth n)) (counted (get_or k (count_place cells depth n) 0) k m)
      (cond (is_marked m (counting_place cells n)) (counted 1 k m)
      (remember depth n (fold (add_reference_units visit c) c.references.count 0 (counted c.direct_draw_units k (set m (counting_place cells n) 1))))))

  -- `source_draw_units`, given how the reference of a number is counted at this depth
  unfoldable pub source_draw_units_with : ℕ → CountNumber → CountSource
  source_draw_units_with depth visit (Geometry n) k m = counted 1 k m
  source_draw_units_with depth visit (Text n) k m = counted 1 k m
  source_draw_units_with depth visit (Node n) k m = counted 1 k m
  source_draw_units_with depth visit (Reference n) k m = visit n k m
  source_draw_units_with depth visit (Cell n) k m = cell_draw_units_with depth visit n (S.cell n) k m

  -- the reference that a number names on the sheet
  abbrev numbered : CountReference → CountNumber
  numbered visit n k m = found_draw_units visit (S.reference n) k m

  -- The three counts. At depth 0 a reference asks no source: its depth is at most 1.
  unfoldable pub reference_draw_units : ℕ → CountReference
  reference_draw_units zero r k m = reference_draw_units_with 0 (λ s k m. counted 1 k m) r k m
  reference_draw_units (suc depth) r k m = reference_draw_units_with (suc depth) (source_draw_units_with depth (numbered (reference_draw_units depth))) r k m

  -- the first by number, for a cell's list and for an inner reference
  abbrev pub numbered_draw_units : ℕ → CountNumber
  numbered_draw_units depth n k m = numbered (reference_draw_units depth) n k m

  unfoldable pub source_draw_units : ℕ → CountSource
  source_draw_units depth = source_draw_units_with depth (numbered_draw_units depth)

  unfoldable pub cell_draw_units : ℕ → CountNumber
  cell_draw_units depth n k m = cell_draw_units_with depth (numbered_draw_units depth) n (S.cell n) k m
