-- The ways out of the functions of the cycle, one law for each, over the bytes of a sheet: the premises are what the calls on that way ensure.
-- They join the look-up laws of the abstract sheet with the rules by code path.
-- Assumes nothing.
use mathlib.Core.Path.{◌≡◌, sym, ap, ◌∙◌}
use mathlib.Core.Bool.{true, false}
use mathlib.Core.List.{List}
use mathlib.Core.Option.{some}
use Prim.Native.Nat.{ℕ, ◌-◌, ◌≤◌, ◌<◌}
use lib.ListN.{get_or, set}
use borrow.Author.Tests.{lt-leb, le-leb, eq-eqb, ne_eqb}
use Rattle.grid.specs.Grid.{grid_count}
use Rattle.walk.specs.Find.{Found}
use Rattle.std.specs.Prelude.{Some, None}
use Rattle.records.specs.declared.PreparedSource.{PreparedSource}
use Rattle.records.specs.declared.PreparedSource.TheVariants.{Geometry, Text, Node, Reference, Cell}
use Rattle.records.specs.declared.PreparedReference.{PreparedReference}
use Rattle.records.specs.declared.PreparedCell.{PreparedCell}
use Rattle.records.specs.Records.{reference_at, cell_at, cell_reference_at}
use Rattle.abstract_sheet.specs.Sheet.{cell_record_at, references, cells}
use Rattle.check_sheet.specs.declared.Counts.{Counts}
use Rattle.look_up.specs.Look.{look, sheet_with}
use Rattle.look_up.proofs.Looking.{item_looked}
use Rattle.plan_rules.specs.Event.{◌⊞◌, ◌⊠◌}
use Rattle.plan_rules.specs.Scratch.{counting_place, remembered_place, count_place, is_marked}
use Rattle.plan_rules.specs.DrawUnits.{Units, counted, fold, add_reference_units, remember, reference_draw_units, numbered_draw_units, source_draw_units, cell_draw_units}
use Rattle.plan_rules.proofs.Paths.Counts as Paths

-- ---- `reference_draw_units`

module _ (s f : List ℕ) (kinds : Counts) (depth : ℕ) (r : PreparedReference) (k m : List ℕ) (count : ℕ) (grid : count ≡ grid_count r.grid) where
  pub reference_empty : count ≡ 0 → counted 0 k m ≡ reference_draw_units (sheet_with s f kinds) kinds.cells depth r k m
  reference_empty h = sym (Paths.units_empty (sheet_with s f kinds) kinds.cells depth r k m (eq-eqb _ _ (sym grid ∙ h)))

  module _ (members : count ≡ 0 → ⊥) where
    pub reference_shallow : (units : ℕ) → depth ≤ 1 → units ≡ count ⊠ 1 → counted units k m ≡ reference_draw_units (sheet_with s f kinds) kinds.cells depth r k m
    reference_shallow units h e =
        ap (λ (u : ℕ). counted u k m) (e ∙ ap (λ (g : ℕ). g ⊠ 1) grid)
        ∙ sym (Paths.units_shallow (sheet_with s f kinds) kinds.cells depth r k m (ne_eqb _ _ (λ z. members (grid ∙ z))) (le-leb _ _ h))

    pub reference_deep : (sourceCount units : ℕ) (k' m' : List ℕ)
        → 1 < depth
        → counted sourceCount k' m' ≡ source_draw_units (sheet_with s f kinds) kinds.cells (depth - 1) r.source k m
        → units ≡ count ⊠ sourceCount
        → counted units k' m' ≡ reference_draw_units (sheet_with s f kinds) kinds.cells depth r k m
    reference_deep sourceCount units k' m' h source e =
        rw (Paths.units_deep (sheet_with s f kinds) kinds.cells depth r k m (ne_eqb _ _ (λ z. members (grid ∙ z))) (lt-leb _ _ h), ← source, ← grid, ← e)

-- ---- a reference by number

module _ (s f : List ℕ) (kinds : Counts) (depth number : ℕ) (k m : List ℕ) where
  pub number_missing : {found : Found} → found ≡ look s f kinds 4 number → found ≡ None → counted 0 k m ≡ numbered_draw_units (sheet_with s f kinds) kinds.cells depth number k m
  number_missing looked told = sym (Paths.units_missing (sheet_with s f kinds) kinds.cells depth number k m (item_looked references s f kinds number looked told))

  pub number_found : {found : Found} → found ≡ look s f kinds 4 number → (at : ℕ) → found ≡ Some at → (r : PreparedReference) → r ≡ reference_at s at
      → (u : Units) → u ≡ reference_draw_units (sheet_with s f kinds) kinds.cells depth r k m → u ≡ numbered_draw_units (sheet_with s f kinds) kinds.cells depth number k m
  number_found looked at told r read u e = e ∙ sym (Paths.units_found (sheet_with s f kinds) kinds.cells depth number k m r (item_looked references s f kinds number looked told ∙ ap some (sym read)))

-- ---- `source_draw_units`

module _ (s f : List ℕ) (kinds : Counts) (depth : ℕ) (k m : List ℕ) (source : PreparedSource) (n : ℕ) where
  pub source_geometry : source ≡ Geometry n → counted 1 k m ≡ source_draw_units (sheet_with s f kinds) kinds.cells depth source k m
  source_geometry e = rw e (sym (Paths.units_geometry (sheet_with s f kinds) kinds.cells depth n k m))

  pub source_text : source ≡ Text n → counted 1 k m ≡ source_draw_units (sheet_with s f kinds) kinds.cells depth source k m
  source_text e = rw e (sym (Paths.units_text (sheet_with s f kinds) kinds.cells depth n k m))

  pub source_node : source ≡ Node n → counted 1 k m ≡ source_draw_units (sheet_with s f kinds) kinds.cells depth source k m
  source_node e = rw e (sym (Paths.units_node (sheet_with s f kinds) kinds.cells depth n k m))

  pub source_reference : source ≡ Reference n → (u : Units) → u ≡ numbered_draw_units (sheet_with s f kinds) kinds.cells depth n k m → u ≡ source_draw_units (sheet_with s f kinds) kinds.cells depth source k m
  source_reference e u h = rw e (h ∙ sym (Paths.units_reference (sheet_with s f kinds) kinds.cells depth n k m))

  pub source_cell : source ≡ Cell n → (u : Units) → u ≡ cell_draw_units (sheet_with s f kinds) kinds.cells depth n k m → u ≡ source_draw_units (sheet_with s f kinds) kinds.cells depth source k m
  source_cell e u h = rw e (h ∙ sym (Paths.units_cell (sheet_with s f kinds) kinds.cells depth n k m))

-- ---- `cell_draw_units`

-- one turn of the loop over the references of the cell at an offset
abbrev pub added_at : List ℕ → List ℕ → Counts → ℕ → ℕ → ℕ → Units → Units
added_at s f kinds depth at = add_reference_units (numbered_draw_units (sheet_with s f kinds) kinds.cells depth) (cell_record_at s at)

pub reference_added : (s f : List ℕ) (kinds : Counts) (depth at i number count more sum : ℕ) (k m k' m' : List ℕ)
    → number ≡ cell_reference_at s at i
    → counted more k' m' ≡ numbered_draw_units (sheet_with s f kinds) kinds.cells depth number k m
    → sum ≡ count ⊞ more
    → added_at s f kinds depth at i (counted count k m) ≡ counted sum k' m'
unfolding add_reference_units cell_record_at
reference_added s f kinds depth at i number count more sum k m k' m' read units sums = rw (← read, ← units, ← sums)

module _ (s f : List ℕ) (kinds : Counts) (depth cell : ℕ) (k m : List ℕ) where
  pub cell_missing : {found : Found} → found ≡ look s f kinds 5 cell → found ≡ None → counted 1 k m ≡ cell_draw_units (sheet_with s f kinds) kinds.cells depth cell k m
  cell_missing looked told = sym (Paths.units_cell_missing (sheet_with s f kinds) kinds.cells depth cell k m (item_looked cells s f kinds cell looked told))

  module _ {found : Found} (looked : found ≡ look s f kinds 5 cell) (at : ℕ) (told : found ≡ Some at) where
    pub cell_depth_zero : depth ≡ 0 → counted 1 k m ≡ cell_draw_units (sheet_with s f kinds) kinds.cells depth cell k m
    cell_depth_zero h = sym (Paths.units_depth_zero (sheet_with s f kinds) kinds.cells depth cell k m (cell_record_at s at) (item_looked cells s f kinds cell looked told) (eq-eqb _ _ h))

    module _ (deep : depth ≡ 0 → ⊥) where
      pub cell_remembered : (count : ℕ)
          → is_marked m (remembered_place kinds.cells depth cell) ≡ true
          → count ≡ get_or k (count_place kinds.cells depth cell) 0
          → counted count k m ≡ cell_draw_units (sheet_with s f kinds) kinds.cells depth cell k m
      cell_remembered count h e =
          ap (λ (u : ℕ). counted u k m) e
          ∙ sym (Paths.units_remembered (sheet_with s f kinds) kinds.cells depth cell k m (cell_record_at s at) (item_looked cells s f kinds cell looked told) (ne_eqb _ _ deep) h)

      module _ (fresh : is_marked m (remembered_place kinds.cells depth cell) ≡ false) where
        pub cell_circle : is_marked m (counting_place kinds.cells cell) ≡ true → counted 1 k m ≡ cell_draw_units (sheet_with s f kinds) kinds.cells depth cell k m
        cell_circle h = sym (Paths.units_circle (sheet_with s f kinds) kinds.cells depth cell k m (cell_record_at s at) (item_looked cells s f kinds cell looked told) (ne_eqb _ _ deep) fresh h)

        pub cell_counted : (r : PreparedCell) (count : ℕ) (m₁ m₂ m₃ m₄ k₂ k₄ : List ℕ)
            → is_marked m (counting_place kinds.cells cell) ≡ false
            → m₁ ≡ set m (counting_place kinds.cells cell) 1
            → r ≡ cell_at s at
            → fold (added_at s f kinds depth at) r.references 0 (counted r.direct_draw_units k m₁) ≡ counted count k₂ m₂
            → m₃ ≡ set m₂ (counting_place kinds.cells cell) 0
            → m₄ ≡ set m₃ (remembered_place kinds.cells depth cell) 1
            → k₄ ≡ set k₂ (count_place kinds.cells depth cell) count
            → counted count k₄ m₄ ≡ cell_draw_units (sheet_with s f kinds) kinds.cells depth cell k m
        unfolding remember cell_record_at
        cell_counted r count m₁ m₂ m₃ m₄ k₂ k₄ closed opened read body left remembered stored =
            let whole : fold (added_at s f kinds depth at) (cell_at s at).references 0 (counted (cell_at s at).direct_draw_units k (set m (counting_place kinds.cells cell) 1)) ≡ counted count k₂ m₂ =
            ap (λ (x : PreparedCell). fold (added_at s f kinds depth at) x.references 0 (counted x.direct_draw_units k (set m (counting_place kinds.cells cell) 1))) (sym read)
            ∙ ap (λ (x : List ℕ). fold (added_at s f kinds depth at) r.references 0 (counted r.direct_draw_units k x)) (sym opened)
            ∙ body in
            rw (remembered, left, stored)
            (sym (Paths.units_counted (sheet_with s f kinds) kinds.cells depth cell k m (cell_record_at s at) (item_looked cells s f kinds cell looked told) (ne_eqb _ _ deep) fresh closed ∙ ap (remember (sheet_with s f kinds) kinds.cells depth cell) whole))
