-- DOCUMENT 02, PAPER 3: the sentences of `specs.UnusedSites` hold.
-- Assumes nothing.
use mathlib.Core.Path.{◌≡◌, refl, sym, ap, ◌∙◌}
use mathlib.Core.Bool.{Bool, true, false, cond, ◌||◌}
use mathlib.Core.List.{List}
use mathlib.Core.Option.{Option, none, some}
use Prim.Native.Nat.{ℕ, ◌-◌, ◌/◌, ◌≤◌, ◌<◌, max}
use native.Mathlib.Nat.{mul-zero, mul-one, zero-mul, zero-div, le-max_right, max-eq_left}
use native.Mathlib.Omega.{arith}
use lib.Dec.{eqb}
use lib.Ieee.{Float, lt}
use borrow.Author.Tests.{eqb-true, le-leb, lt-leb, le-ltb, lt-ltb}
use Rattle.grid.specs.Grid.{grid_count}
use Rattle.screen.specs.Screen.{ref_load_threshold_px, collapse_test, should_collapse_reference}
use Rattle.records.specs.declared.PreparedReference.{PreparedReference}
use Rattle.abstract_sheet.specs.Sheet.{CellRecord, Sheet}
use Rattle.plan_rules.specs.Event.{saturate, ◌⊠◌}
use Rattle.plan_rules.specs.DrawUnits.{Units, reference_draw_units, source_draw_units, cell_draw_units}
use Rattle.plan_rules.specs.Visit.{source_units}
use Rattle.plan_rules.specs.UnusedSites.{UnusedSitesCountNothing, OthersCountAsBefore, OneAMemberAtDepthOne, MissingCellCountsOne, OpenCircleCountsOne, ItemCountsOne, ShareAtLeastOne, UnusedSitesAreNeverDense}
use Rattle.plan_rules.proofs.Paths.Counts as Counts

-- ---- the count

abbrev units_of : Units → ℕ
units_of u = u.units

none_of_any : (n : ℕ) → 0 ⊠ n ≡ 0
unfolding saturate
none_of_any n = rw (zero-mul n)

pub any_of_none : (n : ℕ) → n ⊠ 0 ≡ 0
unfolding saturate
any_of_none n = rw (mul-zero n)

module _ (S : Sheet) (cells depth : ℕ) (r : PreparedReference) (k m : List ℕ) where
  -- A reference counts its members times what one is taken for. A grid without members asks no source, and counts 0 all the same.
  by_members : (n : ℕ) → (eqb (grid_count r.grid) 0 ≡ false → units_of (reference_draw_units S cells depth r k m) ≡ grid_count r.grid ⊠ n) → units_of (reference_draw_units S cells depth r k m) ≡ grid_count r.grid ⊠ n
  by_members n counts = by (eqb (grid_count r.grid) 0) refl
    where
      by : (b : Bool) → eqb (grid_count r.grid) 0 ≡ b → units_of (reference_draw_units S cells depth r k m) ≡ grid_count r.grid ⊠ n
      by true a = ap units_of (Counts.units_empty S cells depth r k m a) ∙ sym (ap (λ (g : ℕ). g ⊠ n) (eqb-true _ _ a) ∙ none_of_any n)
      by false a = counts a

  by_source : 1 < depth → units_of (reference_draw_units S cells depth r k m) ≡ grid_count r.grid ⊠ units_of (source_draw_units S cells (depth - 1) r.source k m)
  by_source deep = by_members _ (λ a. ap units_of (Counts.units_deep S cells depth r k m a (lt-leb depth 1 deep)))

  one_each : depth ≤ 1 → units_of (reference_draw_units S cells depth r k m) ≡ grid_count r.grid ⊠ 1
  one_each shallow = by_members 1 (λ a. ap units_of (Counts.units_shallow S cells depth r k m a (le-leb depth 1 shallow)))

pub unused_sites_count_nothing : UnusedSitesCountNothing
unused_sites_count_nothing S cells depth r k m deep e = by_source S cells depth r k m deep ∙ ap (λ (n : ℕ). grid_count r.grid ⊠ n) e ∙ any_of_none (grid_count r.grid)

pub others_count_as_before : OthersCountAsBefore
others_count_as_before S cells depth r k m deep one = by_source S cells depth r k m deep ∙ ap (λ (n : ℕ). grid_count r.grid ⊠ n) (sym (max-eq_left one))

pub one_a_member_at_depth_one : OneAMemberAtDepthOne
one_a_member_at_depth_one S cells depth r k m shallow = one_each S cells depth r k m shallow ∙ ap saturate (mul-one (grid_count r.grid))

pub missing_cell_counts_one : MissingCellCountsOne
missing_cell_counts_one S cells depth n k m e = ap units_of (Counts.units_cell_missing S cells depth n k m e)

pub open_circle_counts_one : OpenCircleCountsOne
open_circle_counts_one S cells depth n k m fresh counting = by (S.cell n) refl (eqb depth 0) refl
  where
    by : (o : Option CellRecord) → S.cell n ≡ o → (b : Bool) → eqb depth 0 ≡ b → units_of (cell_draw_units S cells depth n k m) ≡ 1
    by none e b a = missing_cell_counts_one S cells depth n k m e
    by (some c) e true a = ap units_of (Counts.units_depth_zero S cells depth n k m c e a)
    by (some c) e false a = ap units_of (Counts.units_circle S cells depth n k m c e a fresh counting)

pub item_counts_one : ItemCountsOne
item_counts_one S cells depth n k m = (ap units_of (Counts.units_geometry S cells depth n k m), ap units_of (Counts.units_text S cells depth n k m), ap units_of (Counts.units_node S cells depth n k m))

-- ---- what rests on it

pub share_at_least_one : ShareAtLeastOne
unfolding source_units
share_at_least_one units count = le-max_right (cond (eqb count 0) 1 (units / count)) 1

-- "Units 127 are never dense", nor fewer
pub under_128_never_dense : (w h : Float) (members units depth : ℕ)
    → lt w ref_load_threshold_px || lt h ref_load_threshold_px ≡ false → members ≤ 8192 → units < 128 → 1 < depth → should_collapse_reference w h members units depth false ≡ false
unfolding should_collapse_reference collapse_test
under_128_never_dense w h members units depth e m u d = rw (lt-leb depth 1 d, e, le-ltb 8192 members m, lt-ltb units 128 u)

share_of_nothing : (count : ℕ) → source_units 0 count < 128
unfolding source_units
share_of_nothing count = by (eqb count 0)
  where
    by : (b : Bool) → max (cond b 1 (0 / count)) 1 < 128
    by true = omega arith
    by false = rw (zero-div count) (omega arith)

pub unused_sites_are_never_dense : UnusedSitesAreNeverDense
unused_sites_are_never_dense w h members depth count e m d =
    (under_128_never_dense w h members 0 depth e m (omega arith) d, under_128_never_dense w h 1 (source_units 0 count) depth e (omega arith) (share_of_nothing count) d)
