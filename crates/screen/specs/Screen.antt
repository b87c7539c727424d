-- Sizes on the screen, in f32, and the tests that are made of them: bevy_scene.rs (`screen_size`, `reference_screen_size`,
-- the tests of `visit_reference` and `push_geometry`) and drawable.rs (`should_collapse_reference`).
-- "Float narrowing and count-to-float round to nearest, ties to even."
-- Definitions only. Assumes nothing.
use Rattle.std.specs.Prelude.{Bool, false, not, cond, ◌&&◌, ◌||◌, Option, Some, None, is_some, ℕ, leb, ltb, pos, Float}
use Rattle.std.specs.Float.{fin, binary32}
use Rattle.std.specs.Float.Ieee.{mul, div, of_int, lt, le}
use Rattle.rounding.specs.Narrow.{narrow}
use Rattle.floats.specs.Order.{abs, max_num, is_finite}
use Rattle.geometry.specs.declared.bbox.WorldBBox.{WorldBBox}
use Rattle.screen.specs.declared.ScreenSize.{ScreenSize}
use Rattle.screen.specs.declared.CollapseTest.{CollapseTest}
use Rattle.screen.specs.declared.CollapseTest.TheVariants as test
use Rattle.geometry.specs.Rounded.{◌⊖◌, ◌⊗◌}

-- ---- the Rust's constants: 24, 128, 16, 8,192; 128, 16, 24; and one pixel

abbrev pub ref_load_threshold_px : Float
ref_load_threshold_px = fin false 3 (pos 3)

abbrev pub ref_dense_grid_min_instances : ℕ
ref_dense_grid_min_instances = 128

abbrev pub ref_load_min_avg_instance_area_px : Float
ref_load_min_avg_instance_area_px = fin false 1 (pos 4)

abbrev pub ref_max_grid_expansion : ℕ
ref_max_grid_expansion = 8192

abbrev pub dense_batch_min_elements : ℕ
dense_batch_min_elements = 128

abbrev pub min_average_element_area_px : Float
min_average_element_area_px = fin false 1 (pos 4)

abbrev pub min_fixed_content_px : Float
min_fixed_content_px = fin false 3 (pos 3)

abbrev pub one_px : Float
one_px = fin false 1 (pos 0)

-- ---- sizes

abbrev pub size : Float → Float → ScreenSize
size w h = record { width = w; height = h }

-- one side before it is narrowed: (max - min).abs() * zoom
abbrev pub wide_side : Float → Float → Float → Float
wide_side min max zoom = abs (max ⊖ min) ⊗ zoom

-- one side: ((max - min).abs() * zoom) as f32
unfoldable pub side : Float → Float → Float → Float
side min max zoom = narrow (wide_side min max zoom)

unfoldable pub screen_size : WorldBBox → Float → ScreenSize
screen_size b zoom = size (side b.min_x b.max_x zoom) (side b.min_y b.max_y zoom)

unfoldable pub reference_screen_size : WorldBBox → Float → Bool → ScreenSize
reference_screen_size b zoom degenerate =
    let s = screen_size b zoom in
    cond degenerate (size (max_num s.width min_fixed_content_px) (max_num s.height min_fixed_content_px)) s

-- ---- tests

unfoldable pub is_subpixel : ScreenSize → Bool
is_subpixel s = not (is_finite s.width) || not (is_finite s.height) || lt s.width one_px && lt s.height one_px

-- a finite area that leaves at most `limit` square pixels to each of n, all in f32
unfoldable pub average_area_within : ScreenSize → ℕ → Float → Bool
average_area_within s n limit =
    let area = mul binary32 s.width s.height in
    is_finite area && le (div binary32 area (of_int binary32 (pos n))) limit

unfoldable pub is_dense : ScreenSize → ℕ → Bool
is_dense s n = average_area_within s n ref_load_min_avg_instance_area_px

unfoldable pub is_dense_batch : ScreenSize → ℕ → Bool
is_dense_batch s elements = leb dense_batch_min_elements elements && average_area_within s elements min_average_element_area_px

-- the first test that is met, if any is
abbrev pub FirstMet : Type 0
FirstMet = Option CollapseTest

-- The tests of `should_collapse_reference` in its order.
-- Width, height, members of the grid, draw units, depth, and whether a box is asked for.
unfoldable pub collapse_test : Float → Float → ℕ → ℕ → ℕ → Bool → FirstMet
collapse_test w h members units depth force =
    cond (force || leb depth 1) (Some test.Depth)
    (cond (lt w ref_load_threshold_px || lt h ref_load_threshold_px) (Some test.Side)
    (cond (ltb ref_max_grid_expansion members) (Some test.Grid)
    (cond (ltb units ref_dense_grid_min_instances) None
    (cond (is_dense (size w h) units) (Some test.Density) None))))

abbrev pub collapses : FirstMet → Bool
collapses = is_some

unfoldable pub should_collapse_reference : Float → Float → ℕ → ℕ → ℕ → Bool → Bool
should_collapse_reference w h members units depth force = collapses (collapse_test w h members units depth force)
