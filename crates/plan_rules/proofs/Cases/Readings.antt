-- THE READINGS AT THE EDGES hold: one theorem for the list of `specs.Readings`. All are computed but four, which speak of every size or depth.
-- Assumes nothing.
use mathlib.Core.Path.{◌≡◌, refl, ◌∙◌}
use mathlib.Core.Bool.{Bool, true, false, cond, ◌||◌}
use mathlib.Core.Option.{none, some}
use Prim.Native.Nat.{ℕ, zero, suc, ◌≤◌, ◌<◌}
use native.Mathlib.Omega.{arith}
use lib.Dec.{leb, eqb}
use lib.Ieee.{Float, lt}
use borrow.Author.Tests.{lt-leb, ne_eqb}
use Rattle.screen.specs.Screen.{FirstMet, ref_load_threshold_px, collapse_test, collapses, should_collapse_reference}
use Rattle.abstract_sheet.specs.Sheet.{CellRecord}
use Rattle.plan_rules.specs.Maps.{empty_maps, fold_maps, map_or_one, fresh_cell, mapped_cell, mapped_reference_with, mapped_source, mapped_reference}
use Rattle.plan_rules.specs.Readings.{grid_of_cell, cell_with, grid_units_at, readings, AllHold}
use Rattle.plan_rules.proofs.Memory.Faithful.{CellsBelow, reference_same}
use Rattle.plan_rules.proofs.Memory.Start.{fresh_agree}
use Rattle.plan_rules.proofs.UnusedSites.{under_128_never_dense}
use Rattle.plan_rules.proofs.Cases.Opened.{opened}

-- ---- readings of every size

-- a box, whichever of two tests is met first
settled : (b : Bool) (x y : FirstMet) → collapses x ≡ true → collapses y ≡ true → collapses (cond b x y) ≡ true
settled true x y e f = e
settled false x y e f = f

grid_8193_collapses : (w h : Float) (units depth : ℕ) (force : Bool) → should_collapse_reference w h 8193 units depth force ≡ true
unfolding should_collapse_reference collapse_test
grid_8193_collapses w h units depth force = settled (force || leb depth 1) _ _ refl (settled (lt w ref_load_threshold_px || lt h ref_load_threshold_px) _ _ refl refl)

under_24_collapses : (w h : Float) (members units depth : ℕ) (force : Bool) → lt w ref_load_threshold_px || lt h ref_load_threshold_px ≡ true → should_collapse_reference w h members units depth force ≡ true
unfolding should_collapse_reference collapse_test
under_24_collapses w h members units depth force e = rw e (settled (force || leb depth 1) _ _ refl refl)

-- ---- a reading of every depth: zeroed places are empty maps, and over these a count is computed

two_by_three_over_maps : (depth : ℕ) → leb (suc (suc depth)) 1 ≡ false → eqb (suc depth) 0 ≡ false → (mapped_reference (cell_with 0) (suc (suc depth)) (grid_of_cell 2 3) empty_maps).units ≡ 0
unfolding mapped_reference mapped_reference_with mapped_source mapped_cell fresh_cell map_or_one fold_maps opened
two_by_three_over_maps depth a b = rw (a, b)

two_by_three_of_nothing : (depth : ℕ) → 2 ≤ depth → grid_units_at depth 2 3 0 ≡ 0
two_by_three_of_nothing zero h = absurd (omega arith)
two_by_three_of_nothing (suc zero) h = absurd (omega arith)
two_by_three_of_nothing (suc (suc depth)) h =
    (reference_same 1 (suc (suc depth)) (cell_with 0) one_cell (suc (suc depth)) (omega arith) (grid_of_cell 2 3) _ _ _ (fresh_agree 1 (suc (suc depth)))).units
    ∙ two_by_three_over_maps depth (lt-leb (suc (suc depth)) 1 (omega arith)) (ne_eqb (suc depth) 0 (λ e. absurd (omega arith)))
  where
    one_cell : CellsBelow 1 (cell_with 0)
    one_cell = record { present = by; absent = λ c e. gone c e }
      where
        by : (c : ℕ) (x : CellRecord) → (cell_with 0).cell c ≡ some x → c < 1
        by zero x e = omega arith
        by (suc c) x e = let z : ◌≡◌ {A = ℕ} 0 1 = cc in absurd (omega arith)

        gone : (c : ℕ) → (cell_with 0).cell c ≡ none → 1 ≤ c
        gone zero e = let z : ◌≡◌ {A = ℕ} 0 1 = cc in absurd (omega arith)
        gone (suc c) e = omega arith

-- ---- the theorem

infixr 40 ◌&◌
abbrev ◌&◌ : {A B : Type 0} → A → B → A × B
a & b = (a, b)

pub the_readings : AllHold readings
unfolding readings opened
the_readings =
    refl & refl & refl & refl & grid_8193_collapses
    & (λ w h members depth e m d. under_128_never_dense w h members 127 depth e m (omega arith) d) & refl & refl
    & refl & refl
    & refl & refl & refl & refl & refl & refl & refl & refl & under_24_collapses
    & refl & refl
    & refl & refl
    & refl & two_by_three_of_nothing & refl & refl & refl
    & refl & refl & refl & refl & refl & tt
