-- Edges that document 01 does not mark P: narrowing at 24 px, the limits, and the memory of counts. Lists of what the rules answer beside what they should, each checked by one theorem, by computation.
-- Assumes nothing.
use mathlib.Core.Path.{◌≡◌, refl}
use mathlib.Core.Bool.{Bool, true, false}
use mathlib.Core.List.{List, [], ◌∷◌, map}
use Prim.Native.Nat.{ℕ, ◌-◌, ◌*◌, ◌^◌}
use lib.ListN.{replicate}
use lib.IntN.{negsuc}
use lib.Ieee.{Float, fin}
use Rattle.abstract_sheet.specs.Sheet.{Sheet}
use Rattle.plan_rules.specs.declared.ScenePlan.{ScenePlan}
use Rattle.plan_rules.specs.Limits.{max_scene_objects}
use Rattle.plan_rules.specs.declared.Reason.TheVariants as reason
use Rattle.plan_rules.specs.Event.{dropped_proxy, culled_reference, scene_plan, after}
use Rattle.plan_rules.specs.World.{detail_cells_full, detail_budget_exhausted, world}
use Rattle.plan_rules.specs.DrawUnits.{Units, cell_draw_units}
use Rattle.plan_rules.specs.Push.{add_load}
use Rattle.plan_rules.specs.Tape.{no_tag}
use Rattle.plan_rules.specs.Samples.{whole, page, sheet_of_lists, cell_of, viewing}
use Rattle.plan_rules.specs.Readings.{reference_collapses, nothing}
use Rattle.plan_rules.proofs.Cases.Opened.{opened}

-- what the rules answer, and what they should
pub record Case : Type 0 where
  pub rules : ℕ
  pub paper : ℕ

abbrev is : ℕ → ℕ → Case
is r p = record { rules = r; paper = p }

abbrev rules_of : Case → ℕ
rules_of c = c.rules

abbrev paper_of : Case → ℕ
paper_of c = c.paper

abbrev answer : Bool → ℕ
answer false = 0
answer true = 1

-- ---- narrowing: a side is an f32 before it is compared with 24 px. The f32 below 24 is 24 − 2^−19, and collapses. The f64 24 − 2^−21 is narrowed to 24, and passes:
-- that is "Float narrowing .. to nearest", not the paper's case "anything below collapses", which speaks of the side as it is compared.

-- 24 − 2^−bits
abbrev less_than24 : ℕ → Float
less_than24 bits = fin false (24 * 2 ^ bits - 1) (negsuc (bits - 1))

pub narrowing : List Case
narrowing =
    is (answer (reference_collapses 1 1 1 (less_than24 19) (whole 100))) 1
    ∷ is (answer (reference_collapses 1 1 1 (whole 100) (less_than24 19))) 1
    ∷ is (answer (reference_collapses 1 1 1 (less_than24 21) (whole 100))) 0
    ∷ []

pub all_narrowing : map rules_of narrowing ≡ map paper_of narrowing
unfolding narrowing opened
all_narrowing = refl

-- ---- "Limits: 20,000 cells in detail, 20,000 objects, 10,000 texts, 100,000 proxies", each at the limit and one before it

abbrev state : ℕ → ℕ → ℕ → ℕ → ScenePlan
state texts proxies cellsInDetail objects = scene_plan 0 texts proxies cellsInDetail objects 0 0 0 0 0

abbrev exhausted : ScenePlan → ℕ
exhausted s = answer (detail_budget_exhausted (viewing (page 1 1) (whole 1) 1 max_scene_objects) s)

-- how many proxies are listed after one more is called for: a full list drops it
abbrev proxies_after : ℕ → ℕ
proxies_after proxies = (add_load no_tag nothing tt reason.DepthZero 0 (page 1 1) (world (state 0 proxies 0 0) tt [] [])).state.load_proxies

-- and how many are dropped
abbrev dropped_after : ℕ → ℕ
dropped_after proxies = (add_load no_tag nothing tt reason.DepthZero 0 (page 1 1) (world (state 0 proxies 0 0) tt [] [])).state.dropped_load_proxies

abbrev count_after : ℕ → ℕ
count_after dropped = (after (dropped_proxy reason.DepthZero 0 (page 1 1)) (scene_plan 0 0 100000 0 0 0 0 0 0 dropped)).dropped_load_proxies

pub limits : List Case
limits =
    is (answer (detail_cells_full (state 0 0 19999 0))) 0
    ∷ is (answer (detail_cells_full (state 0 0 20000 0))) 1
    ∷ is (exhausted (state 9999 99999 20000 19999)) 0
    ∷ is (exhausted (state 0 0 0 20000)) 1
    ∷ is (exhausted (state 10000 0 0 0)) 1
    ∷ is (exhausted (state 0 100000 0 0)) 1
    ∷ is (proxies_after 99999) 100000
    ∷ is (proxies_after 100000) 100000
    ∷ is (dropped_after 99999) 0
    ∷ is (dropped_after 100000) 1
    -- "Totals stop at 2^64 − 1."
    ∷ is (after culled_reference (scene_plan 0 0 0 0 0 (2 ^ 64 - 2) 0 0 0 0)).culled_references (2 ^ 64 - 1)
    ∷ is (after culled_reference (scene_plan 0 0 0 0 0 (2 ^ 64 - 1) 0 0 0 0)).culled_references (2 ^ 64 - 1)
    ∷ is (count_after (2 ^ 64 - 2)) (2 ^ 64 - 1)
    ∷ is (count_after (2 ^ 64 - 1)) (2 ^ 64 - 1)
    ∷ []

pub all_limits : map rules_of limits ≡ map paper_of limits
unfolding limits opened
all_limits = refl

-- ---- the memory: counts of other depths and cells are kept apart, and a count is not taken for a cell that is being counted

-- cells 0 (5 units) and 1 (7 units) without references
abbrev apart : Sheet
apart = sheet_of_lists [] [] [] [] (cell_of 5 (page 1 1) [] [] [] [] ∷ cell_of 7 (page 1 1) [] [] [] [] ∷ [])

-- cell 0 was counted at depth 1
abbrev once : Units
once = cell_draw_units apart 2 1 0 (replicate 6 0) (replicate 10 0)

pub memory : List Case
memory =
    is once.units 5
    ∷ is (cell_draw_units apart 2 1 0 once.counts once.marks).units 5
    ∷ is (cell_draw_units apart 2 2 0 once.counts once.marks).units 5
    ∷ is (cell_draw_units apart 2 1 1 once.counts once.marks).units 7
    -- depth 0, and a cell that the sheet lacks
    ∷ is (cell_draw_units apart 2 0 0 once.counts once.marks).units 1
    ∷ is (cell_draw_units apart 2 1 2 once.counts once.marks).units 1
    ∷ []

pub all_memory : map rules_of memory ≡ map paper_of memory
unfolding memory opened
all_memory = refl
