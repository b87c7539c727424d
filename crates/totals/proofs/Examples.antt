-- A FULL LIST, computed: the bound on dropped proxies is met.
-- Cell 0 lists a reference twice, a grid of two of cell 1, which lists a dense batch twice. With 99,999 proxies listed before, the first batch takes the last place. Then
-- cell 1, the reference and cell 0 each meet the exhausted budget: three are dropped, which is `most_dropped` of depth 2.
-- Assumes nothing.
use mathlib.Core.Path.{◌≡◌, refl}
use mathlib.Core.List.{List, [], ◌∷◌}
use Prim.Native.Nat.{ℕ}
use lib.ListN.{replicate}
use Rattle.records.specs.declared.PreparedSource.TheVariants.{Cell}
use Rattle.abstract_sheet.specs.Sheet.{Sheet}
use Rattle.plan_rules.specs.Limits.{max_scene_objects}
use Rattle.plan_rules.specs.Event.{Event, scene_plan}
use Rattle.plan_rules.specs.World.{World, world}
use Rattle.plan_rules.specs.Plan.{visit_root}
use Rattle.plan_rules.specs.Tape.{no_tag, note}
use Rattle.plan_rules.specs.Samples.{whole, page, sheet_of_lists, batch_of, refer, cell_of, viewing}
use Rattle.plan_rules.proofs.Cases.Opened.{opened}
use Rattle.totals.specs.Proxies.{listed_proxies, dropped_proxies, called_for, most_dropped}

abbrev nested : Sheet
nested =
    sheet_of_lists (batch_of 128 (page 64 32) ∷ []) [] [] (refer 1 2 0 100 (Cell 1) (page 64 32) ∷ [])
    (cell_of 0 (page 64 132) [] [] [] (0 ∷ 0 ∷ []) ∷ cell_of 2 (page 64 32) (0 ∷ 0 ∷ []) [] [] [] ∷ [])

-- the visits at depth 2, with so many proxies listed before
abbrev after : ℕ → World (List (Unit {0} × Event))
after before = visit_root no_tag note nested 2 (viewing (page 1000 1000) (whole 1) 2 max_scene_objects) 2 tt (world (scene_plan 0 0 before 0 0 0 0 0 0 0) [] (replicate 4 0) (replicate 8 0))

abbrev counts : ℕ → List ℕ
counts before = listed_proxies (after before).out ∷ dropped_proxies (after before).out ∷ called_for (after before).out ∷ (after before).state.dropped_load_proxies ∷ []

-- eight batches, all listed; seven and a box that meets the full list; and the bound
pub full_lists : (counts 99992 ≡ 8 ∷ 0 ∷ 8 ∷ 0 ∷ []) × (counts 99993 ≡ 7 ∷ 1 ∷ 8 ∷ 1 ∷ []) × (counts 99999 ≡ 1 ∷ 3 ∷ 4 ∷ 3 ∷ []) × (most_dropped 2 ≡ 3)
unfolding opened
full_lists = (refl, refl, refl, refl)
