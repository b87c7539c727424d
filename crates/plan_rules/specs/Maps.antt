-- Draw units over the memory that bevy_scene.rs has: a map from a cell and a depth to a count, and a set of the cells being counted.
-- Only `MappedPlan` rests on this: proofs/Memory shows that a plan over the lent scratch is a plan over these.
-- Definitions only. Assumes nothing.
use Rattle.std.specs.Prelude.{Bool, true, false, cond, ◌||◌, ℕ, zero, suc, ◌+◌, leb, eqb}
use Rattle.std.proofs.Math.Option.{Option, none, some}
use Rattle.grid.specs.Grid.{grid_count}
use Rattle.records.specs.declared.PreparedSource.{PreparedSource}
use Rattle.records.specs.declared.PreparedSource.TheVariants.{Geometry, Text, Node, Reference, Cell}
use Rattle.records.specs.declared.PreparedReference.{PreparedReference}
use Rattle.abstract_sheet.specs.Sheet.{CellRecord, Sheet}
use Rattle.plan_rules.specs.Event.{◌⊞◌, ◌⊠◌}

-- `complexity_cache`, `complexity_stack`, `cell_stack`
pub record Maps : Type 0 where
  pub cache : ℕ → ℕ → Option ℕ
  pub stack : ℕ → Bool
  pub cell_stack : ℕ → Bool

-- what `Planner` starts from
abbrev pub empty_maps : Maps
empty_maps = record { cache = λ c d. none; stack = λ c. false; cell_stack = λ c. false }

-- `insert` and `remove`
abbrev pub stacked : ℕ → Bool → Maps → Maps
stacked c b w = record { cache = w.cache; stack = λ x. cond (eqb x c) b (w.stack x); cell_stack = w.cell_stack }

abbrev pub opened : ℕ → Bool → Maps → Maps
opened c b w = record { cache = w.cache; stack = w.stack; cell_stack = λ x. cond (eqb x c) b (w.cell_stack x) }

abbrev pub cached : ℕ → ℕ → ℕ → Maps → Maps
cached c d v w = record { cache = λ x y. cond (eqb x c) (cond (eqb y d) (some v) (w.cache x y)) (w.cache x y); stack = w.stack; cell_stack = w.cell_stack }

-- a count, and the maps after it
pub record Tally : Type 0 where
  pub units : ℕ
  pub maps : Maps

abbrev pub tally : ℕ → Maps → Tally
tally n w = record { units = n; maps = w }

unfoldable pub fold_maps : (ℕ → Tally → Tally) → ℕ → ℕ → Tally → Tally
fold_maps step zero i x = x
fold_maps step (suc count) i x = fold_maps step count (i + 1) (step i x)

-- `count.saturating_add(self.reference_draw_units(reference, depth))`
unfoldable pub add_mapped : (ℕ → Maps → Tally) → CellRecord → ℕ → Tally → Tally
add_mapped visit c i x = let y = visit (c.references.at i) x.maps in tally (x.units ⊞ y.units) y.maps

-- `self.library.cells.get(cell_name).map_or(1, |cell| ..)`
unfoldable pub map_or_one : (ℕ → Maps → Tally) → Option CellRecord → Maps → Tally
map_or_one visit none w = tally 1 w
map_or_one visit (some c) w = fold_maps (add_mapped visit c) c.references.count 0 (tally c.direct_draw_units w)

-- `if depth == 0 || !self.complexity_stack.insert(..) { return 1; }`, the count, `remove`, `insert(key, count)`
unfoldable pub fresh_cell : (ℕ → Maps → Tally) → ℕ → ℕ → Option CellRecord → Maps → Tally
fresh_cell visit depth n o w =
    cond (eqb depth 0 || w.stack n) (tally 1 w)
    (let x = map_or_one visit o (stacked n true w) in tally x.units (cached n depth x.units (stacked n false x.maps)))

-- `if let Some(&count) = self.complexity_cache.get(&key) { return count; }`
abbrev pub or_cached : Option ℕ → Maps → Tally → Tally
or_cached (some v) w x = tally v w
or_cached none w x = x

unfoldable pub mapped_cell : (ℕ → Maps → Tally) → ℕ → ℕ → Option CellRecord → Maps → Tally
mapped_cell visit depth n o w = or_cached (w.cache n depth) w (fresh_cell visit depth n o w)

-- `reference_draw_units` with document 02's paper 3: the units of the source are taken as they are
unfoldable pub mapped_reference_with : ℕ → (PreparedSource → Maps → Tally) → PreparedReference → Maps → Tally
mapped_reference_with depth deeper r w =
    cond (eqb (grid_count r.grid) 0) (tally 0 w)
    (let x = cond (leb depth 1) (tally 1 w) (deeper r.source w) in tally (grid_count r.grid ⊠ x.units) x.maps)

-- a reference by number
unfoldable pub mapped_found : (PreparedReference → Maps → Tally) → Option PreparedReference → Maps → Tally
mapped_found visit none w = tally 0 w
mapped_found visit (some r) w = visit r w

module _ (S : Sheet) where
  unfoldable pub mapped_source : ℕ → (ℕ → Maps → Tally) → PreparedSource → Maps → Tally
  mapped_source depth visit (Cell n) w = mapped_cell visit depth n (S.cell n) w
  mapped_source depth visit (Reference n) w = visit n w
  mapped_source depth visit (Geometry n) w = tally 1 w
  mapped_source depth visit (Text n) w = tally 1 w
  mapped_source depth visit (Node n) w = tally 1 w

  unfoldable pub mapped_reference : ℕ → PreparedReference → Maps → Tally
  mapped_reference zero r w = mapped_reference_with 0 (λ x w. tally 1 w) r w
  mapped_reference (suc depth) r w = mapped_reference_with (suc depth) (mapped_source depth (λ n w. mapped_found (mapped_reference depth) (S.reference n) w)) r w
