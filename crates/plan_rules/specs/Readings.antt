-- READINGS AT THE EDGES: the cases that document 01 marks P, in its order, each below the paper's words; and, after the one that document 02's paper 3 changes, two that show its purpose.
-- Clause d: "The cases marked P are a list checked by one theorem about the rules." The list is `readings`; the theorem is `the-readings` in proofs/Cases/Readings.antt.
-- Definitions only; rests on the rules and on `Samples`.
use Rattle.std.specs.Prelude.{◌≡◌, Bool, true, false, ◌||◌, List, [], ◌∷◌, ℕ, ◌+◌, ◌-◌, ◌^◌, ◌≤◌, ◌<◌, get_or, replicate, pos, negsuc, Float}
use Rattle.std.specs.Float.{fin, binary32, binary64}
use Rattle.std.specs.Float.Ieee.{add, mul, of_int, lt}
use Rattle.fused.specs.Fma.{fma}
use Rattle.geometry.specs.declared.bbox.WorldBBox.{WorldBBox}
use Rattle.geometry.specs.Placement.{IDENTITY}
use Rattle.geometry.specs.Bbox.{bbox}
use Rattle.grid.specs.Grid.{grid_count}
use Rattle.screen.specs.Screen.{screen_size, should_collapse_reference}
use Rattle.records.specs.declared.PreparedSource.TheVariants.{Geometry, Cell}
use Rattle.records.specs.declared.PreparedReference.{PreparedReference}
use Rattle.abstract_sheet.specs.Sheet.{Sheet}
use Rattle.plan_rules.specs.Limits.{max_scene_objects}
use Rattle.plan_rules.specs.Event.{Event, empty_plan}
use Rattle.plan_rules.specs.World.{Query, World, world}
use Rattle.plan_rules.specs.Scratch.{remembered_place, count_place, counts_named, marks_named}
use Rattle.plan_rules.specs.DrawUnits.{Units, reference_draw_units, cell_draw_units}
use Rattle.plan_rules.specs.Push.{push_geometry}
use Rattle.plan_rules.specs.Visit.{visit_reference}
use Rattle.plan_rules.specs.Tape.{no_tag}
use Rattle.plan_rules.specs.Samples.{whole, page, sheet_of_lists, batch_of, refer, cell_of, circle, viewing}

-- ---- references

-- a grid of cell 0, and its members
abbrev pub grid_of_cell : ℕ → ℕ → PreparedReference
grid_of_cell columns rows = refer columns rows 0 0 (Cell 0) (page 1 1)

abbrev pub members : ℕ → ℕ → ℕ
members columns rows = grid_count (grid_of_cell columns rows).grid

-- a sheet of one cell with so many units
abbrev pub cell_with : ℕ → Sheet
cell_with units = sheet_of_lists [] [] [] [] (cell_of units (page 1 1) [] [] [] [] ∷ [])

-- what a grid of this cell counts at a depth, from zeroed scratch
abbrev pub grid_units_at : ℕ → ℕ → ℕ → ℕ → ℕ
grid_units_at depth columns rows units = (reference_draw_units (cell_with units) 1 depth (grid_of_cell columns rows) (replicate (counts_named 1 depth) 0) (replicate (marks_named 1 depth) 0)).units

-- the same at depth 2
abbrev pub grid_units : ℕ → ℕ → ℕ → ℕ
grid_units = grid_units_at 2

-- does it collapse at depth 2 and zoom 1, if its box is so wide and so high?
abbrev pub reference_collapses : ℕ → ℕ → ℕ → Float → Float → Bool
reference_collapses columns rows units width height =
    let size = screen_size (bbox (whole 0) (whole 0) width height) (whole 1) in
    should_collapse_reference size.width size.height (members columns rows) (grid_units columns rows units) 2 false

-- ---- pushes and visits

-- no event is kept: the totals say what became of a batch or of members
abbrev pub nothing : Unit {0} → Event → ℕ → Unit {0} → Unit {0}
nothing t e at o = tt

abbrev start : World (Unit {0})
start = world empty_plan tt [] []

-- objects, proxies, skipped batches, skipped members
abbrev became : World (Unit {0}) → List ℕ
became w = w.state.detail_objects ∷ w.state.load_proxies ∷ w.state.skipped_subpixel_geometry_batches ∷ w.state.skipped_subpixel_references ∷ []

abbrev pub objects : ℕ → List ℕ
objects n = n ∷ 0 ∷ 0 ∷ 0 ∷ []

abbrev pub proxies : ℕ → List ℕ
proxies n = 0 ∷ n ∷ 0 ∷ 0 ∷ []

abbrev pub skipped_batches : ℕ → List ℕ
skipped_batches n = 0 ∷ 0 ∷ n ∷ 0 ∷ []

abbrev pub skipped_members : ℕ → List ℕ
skipped_members n = 0 ∷ 0 ∷ 0 ∷ n ∷ []

abbrev query : Float → Query
query zoom = viewing (page 1000 1000) zoom 2 max_scene_objects

-- what becomes of a batch of so many elements, with this box
abbrev pub batch_becomes : ℕ → WorldBBox → Float → List ℕ
batch_becomes elements box zoom = became (push_geometry no_tag nothing (sheet_of_lists (batch_of elements box ∷ []) [] [] [] []) (query zoom) tt 0 IDENTITY start)

-- what becomes of four members, 200 apart both ways, of a batch with this box
abbrev pub members_become : WorldBBox → Float → List ℕ
members_become box zoom =
    became (visit_reference no_tag nothing (sheet_of_lists (batch_of 1 box ∷ []) [] [] (refer 2 2 200 200 (Geometry 0) box ∷ []) []) 0 (query zoom) 2 tt 0 IDENTITY start)

-- ---- counts

-- the units of a cell of the circle, from zeroed scratch for depth 3
abbrev pub circle_units : ℕ → ℕ → Units
circle_units depth n = cell_draw_units circle 2 depth n (replicate (counts_named 2 3) 0) (replicate (marks_named 2 3) 0)

-- ---- floats

abbrev pub half : Float
half = fin false 1 (negsuc 0)

abbrev minus_one : Float
minus_one = fin true 1 (pos 0)

-- 1 + 2^−52 and 1 − 2^−52
abbrev above : Float
above = fin false (2 ^ 52 + 1) (negsuc 51)

abbrev below : Float
below = fin false (2 ^ 52 - 1) (negsuc 51)

-- ---- the list

unfoldable pub readings : List (Type 0)
readings =
    -- "Grid 64 × 128 = 8,192 may expand": with the units that such a grid has, one a member, it does at 1,000 × 1,000 px
    (members 64 128 ≡ 8192)
    ∷ (grid_units 64 128 1 ≡ 8192)
    ∷ (reference_collapses 64 128 1 (whole 1000) (whole 1000) ≡ false)
    -- "3 × 2,731 = 8,193 collapses": at every size, with any units, at every depth
    ∷ (members 3 2731 ≡ 8193)
    ∷ ((w h : Float) (units depth : ℕ) (force : Bool) → should_collapse_reference w h 8193 units depth force ≡ true)
    -- "Units 127 are never dense": at no size do they collapse a reference that no other test collapses
    ∷ ((w h : Float) (members depth : ℕ) → lt w (whole 24) || lt h (whole 24) ≡ false → members ≤ 8192 → 1 < depth → should_collapse_reference w h members 127 depth false ≡ false)
    -- "Units 128 at 64 × 32 px (16 each) collapse, at 64 × 33 px not."
    ∷ (reference_collapses 1 1 128 (whole 64) (whole 32) ≡ true)
    ∷ (reference_collapses 1 1 128 (whole 64) (whole 33) ≡ false)
    -- "A batch of 128 at 64 × 32 px becomes a proxy; 127 is listed."
    ∷ (batch_becomes 128 (page 64 32) (whole 1) ≡ proxies 1)
    ∷ (batch_becomes 127 (page 64 32) (whole 1) ≡ objects 1)
    -- "0.5 × 0.5 px is skipped, 1 × 0.5 px not": a batch is then listed, and members become a proxy each
    ∷ (batch_becomes 1 (page 1 1) half ≡ skipped_batches 1)
    ∷ (batch_becomes 1 (page 2 1) half ≡ objects 1)
    ∷ (batch_becomes 1 (page 1 2) half ≡ objects 1)
    ∷ (members_become (page 1 1) half ≡ skipped_members 4)
    ∷ (members_become (page 2 1) half ≡ proxies 4)
    ∷ (members_become (page 1 2) half ≡ proxies 4)
    -- "Side 24 px passes"
    ∷ (reference_collapses 1 1 1 (whole 24) (whole 100) ≡ false)
    ∷ (reference_collapses 1 1 1 (whole 100) (whole 24) ≡ false)
    -- "anything below collapses": either side, whatever the other side, the grid, the units and the depth
    ∷ ((w h : Float) (members units depth : ℕ) (force : Bool) → lt w (whole 24) || lt h (whole 24) ≡ true → should_collapse_reference w h members units depth force ≡ true)
    -- "Count 16,777,217 becomes 16,777,216 as f32; 16,777,219 becomes 16,777,220": 2^24, and 4,194,305 × 2^2
    ∷ (of_int binary32 (pos 16777217) ≡ fin false 1 (pos 24))
    ∷ (of_int binary32 (pos 16777219) ≡ fin false 4194305 (pos 2))
    -- "Fused (1 + 2^−52) × (1 − 2^−52) − 1 is −2^−104, not 0", which a plain product and sum give
    ∷ (fma binary64 above below minus_one ≡ fin true 1 (negsuc 103))
    ∷ (add binary64 (mul binary64 above below) minus_one ≡ fin false 0 (pos 0))
    -- "A 2 × 3 grid of a cell with 0 units counts 6", which document 02 changes to "0 at depth 2 and above"; "zero columns count 0"
    ∷ (grid_units_at 1 2 3 0 ≡ 6)
    ∷ ((depth : ℕ) → 2 ≤ depth → grid_units_at depth 2 3 0 ≡ 0)
    ∷ (grid_units 0 3 0 ≡ 0)
    -- "Readers find blocks of unused sites boxed as dense": 8,192 of them at 64 × 64 px are not, and with one unit each they are
    ∷ (reference_collapses 64 128 0 (whole 64) (whole 64) ≡ false)
    ∷ (reference_collapses 64 128 1 (whole 64) (whole 64) ≡ true)
    -- "Cells 0 (5 units) and 1 (7 units) refer to each other once: cell 0 at depth 3 counts 13 and remembers 8 for cell 1 at depth 2; fresh, that is 13."
    ∷ ((circle_units 3 0).units ≡ 13)
    ∷ (get_or (circle_units 3 0).marks (remembered_place 2 2 1) 0 ≡ 1)
    ∷ (get_or (circle_units 3 0).counts (count_place 2 2 1) 0 ≡ 8)
    ∷ ((cell_draw_units circle 2 2 1 (circle_units 3 0).counts (circle_units 3 0).marks).units ≡ 8)
    ∷ ((circle_units 2 1).units ≡ 13)
    ∷ []

-- every statement of a list holds
abbrev pub AllHold : List (Type 0) → Type 0
AllHold [] = Unit {0}
AllHold (A ∷ l) = A × AllHold l
