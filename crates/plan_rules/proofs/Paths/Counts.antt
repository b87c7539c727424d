-- `reference_draw_units`, `source_draw_units` and `cell_draw_units` by code path.
-- Assumes nothing.
use mathlib.Core.Path.{◌≡◌, refl, ap, ◌∙◌, subst}
use mathlib.Core.Bool.{true, false, true≢false}
use mathlib.Core.List.{List}
use mathlib.Core.Option.{Option, none, some}
use Prim.Native.Nat.{ℕ, zero, suc, ◌-◌}
use native.Mathlib.Omega.{arith}
use lib.ListN.{get_or, set}
use lib.Dec.{leb, eqb}
use Rattle.grid.specs.Grid.{grid_count}
use Rattle.records.specs.declared.PreparedSource.TheVariants.{Geometry, Text, Node, Reference, Cell}
use Rattle.records.specs.declared.PreparedReference.{PreparedReference}
use Rattle.abstract_sheet.specs.Sheet.{CellRecord, Sheet}
use Rattle.plan_rules.specs.Scratch.{counting_place, remembered_place, count_place, is_marked}
use Rattle.plan_rules.specs.DrawUnits.{counted, scaled, fold, reference_draw_units_with, found_draw_units, add_reference_units, remember, cell_draw_units_with, source_draw_units_with, reference_draw_units, numbered_draw_units, source_draw_units, cell_draw_units}

-- ---- `reference_draw_units`

module _ (S : Sheet) (cells d : ℕ) (r : PreparedReference) (k m : List ℕ) where
  pub units_empty : eqb (grid_count r.grid) 0 ≡ true → reference_draw_units S cells d r k m ≡ counted 0 k m
  units_empty a = by d
    where
      by : (d : ℕ) → reference_draw_units S cells d r k m ≡ counted 0 k m
      by zero = unfold reference_draw_units reference_draw_units_with in (rw a)
      by (suc d) = unfold reference_draw_units reference_draw_units_with in (rw a)

  pub units_shallow : eqb (grid_count r.grid) 0 ≡ false → leb d 1 ≡ true → reference_draw_units S cells d r k m ≡ scaled (grid_count r.grid) (counted 1 k m)
  units_shallow a = by d
    where
      by : (d : ℕ) → leb d 1 ≡ true → reference_draw_units S cells d r k m ≡ scaled (grid_count r.grid) (counted 1 k m)
      by zero b = unfold reference_draw_units reference_draw_units_with in (rw a)
      by (suc d) b = unfold reference_draw_units reference_draw_units_with in (rw (a, b))

  pub units_deep : eqb (grid_count r.grid) 0 ≡ false → leb d 1 ≡ false → reference_draw_units S cells d r k m ≡ scaled (grid_count r.grid) (source_draw_units S cells (d - 1) r.source k m)
  units_deep a = by d
    where
      by : (d : ℕ) → leb d 1 ≡ false → reference_draw_units S cells d r k m ≡ scaled (grid_count r.grid) (source_draw_units S cells (d - 1) r.source k m)
      by zero b = absurd (true≢false b)
      by (suc d) b =
          let j : d ≡ suc d - 1 = omega arith in
          subst (λ (x : ℕ). reference_draw_units S cells (suc d) r k m ≡ scaled (grid_count r.grid) (source_draw_units S cells x r.source k m)) j
          (unfold reference_draw_units reference_draw_units_with source_draw_units in (rw (a, b)))

module _ (S : Sheet) (cells d n : ℕ) (k m : List ℕ) where
  -- ---- by number

  pub units_missing : S.reference n ≡ none → numbered_draw_units S cells d n k m ≡ counted 0 k m
  unfolding found_draw_units
  units_missing e = rw e

  pub units_found : (r : PreparedReference) → S.reference n ≡ some r → numbered_draw_units S cells d n k m ≡ reference_draw_units S cells d r k m
  unfolding found_draw_units
  units_found r e = rw e

  -- ---- `source_draw_units`

  pub units_geometry : source_draw_units S cells d (Geometry n) k m ≡ counted 1 k m
  unfolding source_draw_units source_draw_units_with
  units_geometry = refl

  pub units_text : source_draw_units S cells d (Text n) k m ≡ counted 1 k m
  unfolding source_draw_units source_draw_units_with
  units_text = refl

  pub units_node : source_draw_units S cells d (Node n) k m ≡ counted 1 k m
  unfolding source_draw_units source_draw_units_with
  units_node = refl

  pub units_reference : source_draw_units S cells d (Reference n) k m ≡ numbered_draw_units S cells d n k m
  unfolding source_draw_units source_draw_units_with
  units_reference = refl

  pub units_cell : source_draw_units S cells d (Cell n) k m ≡ cell_draw_units S cells d n k m
  unfolding source_draw_units source_draw_units_with cell_draw_units
  units_cell = refl

  -- ---- `cell_draw_units`

  found : (o : Option CellRecord) → S.cell n ≡ o → cell_draw_units S cells d n k m ≡ cell_draw_units_with S cells d (numbered_draw_units S cells d) n o k m
  unfolding cell_draw_units
  found o e = ap (λ (o : Option CellRecord). cell_draw_units_with S cells d (numbered_draw_units S cells d) n o k m) e

  pub units_cell_missing : S.cell n ≡ none → cell_draw_units S cells d n k m ≡ counted 1 k m
  unfolding cell_draw_units_with
  units_cell_missing e = found none e

  module _ (c : CellRecord) (e : S.cell n ≡ some c) where
    pub units_depth_zero : eqb d 0 ≡ true → cell_draw_units S cells d n k m ≡ counted 1 k m
    unfolding cell_draw_units_with
    units_depth_zero a = found (some c) e ∙ (rw a)

    module _ (deep : eqb d 0 ≡ false) where
      pub units_remembered : is_marked m (remembered_place cells d n) ≡ true → cell_draw_units S cells d n k m ≡ counted (get_or k (count_place cells d n) 0) k m
      unfolding cell_draw_units_with
      units_remembered b = found (some c) e ∙ (rw (deep, b))

      module _ (fresh : is_marked m (remembered_place cells d n) ≡ false) where
        pub units_circle : is_marked m (counting_place cells n) ≡ true → cell_draw_units S cells d n k m ≡ counted 1 k m
        unfolding cell_draw_units_with
        units_circle x = found (some c) e ∙ (rw (deep, fresh, x))

        pub units_counted : is_marked m (counting_place cells n) ≡ false
            → cell_draw_units S cells d n k m
            ≡ remember S cells d n (fold (add_reference_units (numbered_draw_units S cells d) c) c.references.count 0 (counted c.direct_draw_units k (set m (counting_place cells n) 1)))
        unfolding cell_draw_units_with
        units_counted x = found (some c) e ∙ (rw (deep, fresh, x))
