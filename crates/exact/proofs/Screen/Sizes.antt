-- Sizes on the screen are finite for zooms up to 2 ^ 64, so what the rules skip is under one pixel both ways. Assumes nothing.
use mathlib.Core.Path.{refl}
use mathlib.Core.Bool.{Bool, true, false, not, ◌&&◌, ◌||◌, cond}
use Prim.Native.Nat.{ℕ, ◌+◌, ◌*◌, ◌^◌, ◌≤◌}
use native.Mathlib.Nat.{mul-le-mul, mul-le-mul_right, mul-pos, le_of_eq, le_trans, mul_assoc, mul_comm, mul_left_comm}
use native.Mathlib.Omega.{arith}
use lib.Dec.{T}
use lib.IntN.{pos}
use lib.Pow.{pow-add}
use lib.Ieee.{Float, nan, inf, fin, binary32, binary64, up, down, mul, sub, le, lt, is_nan}
use lib.Ieee.Fits.{down_pos}
use Rattle.rounding.specs.Narrow.{narrow}
use Rattle.floats.specs.Order.{abs, max_num, is_finite}
use Rattle.geometry.specs.declared.bbox.WorldBBox.{WorldBBox}
use Rattle.screen.specs.Screen.{min_fixed_content_px, one_px, side, screen_size, reference_screen_size, is_subpixel}
use Rattle.exact.specs.Integer.{Integer, ◌⊕◌, negate, negate_if, Within}
use Rattle.exact.specs.IsInteger.{IsInteger}
use Rattle.exact.specs.Box.{IntegerBox, IsBox, SidesWithin}
use Rattle.exact.specs.Screen.{zoom_power, ZoomWithin, is_under_one_pixel, SizesFinite}
use Rattle.exact.proofs.Integers.Bounds.{within_negate_if}
use Rattle.exact.proofs.Floats.Sum.{sub_integer}
use Rattle.exact.proofs.Screen.Powers.{AtMostPower, le_of_tests, round_at_most}

-- ---- the operations of one side
abs_at_most : (x : Float) (i : Integer) → IsInteger x i → Within (2 ^ 53) i → AtMostPower 53 (abs x)
unfolding abs
abs_at_most nan i h w = h
abs_at_most (inf t) i h w = h
abs_at_most (fin s m e) i h w =
    let j = negate_if s i in
    let l : j.pos * down e ≤ (j.neg + 2 ^ 53) * down e = mul-le-mul_right (down e) (within_negate_if (2 ^ 53) s i w).below in
    omega arith

mul_at_most : (j k : ℕ) (x y : Float) → j + k ≤ 1023 → AtMostPower j x → AtMostPower k y → AtMostPower (j + k) (mul binary64 x y)
unfolding mul
mul_at_most j k nan y b p q = absurd p
mul_at_most j k (inf s) y b p q = absurd p
mul_at_most j k (fin true m e) y b p q = absurd p
mul_at_most j k (fin false m e) nan b p q = absurd q
mul_at_most j k (fin false m e) (inf t) b p q = absurd q
mul_at_most j k (fin false m e) (fin true n d) b p q = absurd q
mul_at_most j k (fin false m e) (fin false n d) b p q =
    round_at_most binary64 (j + k) (m * up e * (n * up d)) (down e * down d) b (mul-pos (down_pos e) (down_pos d))
    (le_trans (mul-le-mul p q) (le_of_eq (simp (pow-add, mul_assoc, mul_comm, mul_left_comm))))

narrow_at_most : (k : ℕ) (x : Float) → k ≤ 127 → AtMostPower k x → AtMostPower k (narrow x)
unfolding narrow
narrow_at_most k nan b p = p
narrow_at_most k (inf s) b p = p
narrow_at_most k (fin true m e) b p = absurd p
narrow_at_most k (fin false m e) b p = round_at_most binary32 k (m * up e) (down e) b (down_pos e) p

zoom_at_most : (z : Float) → T (lt (fin false 0 (pos 0)) z) → T (le z (fin false 1 (pos zoom_power))) → AtMostPower zoom_power z
unfolding lt le
zoom_at_most nan a b = absurd a
zoom_at_most (inf true) a b = absurd a
zoom_at_most (inf false) a b = absurd b
zoom_at_most (fin true m e) a b = absurd a
zoom_at_most (fin false m e) a b = let k = le_of_tests (m * up e * 1) (1 * 2 ^ zoom_power * down e) b in omega arith

-- ---- one side
screen_side_at_most : (min max zoom : Float) (i j : Integer) → IsInteger min i → IsInteger max j → Within (2 ^ 53) (j ⊕ negate i)
    → ZoomWithin zoom → AtMostPower (53 + zoom_power) (side min max zoom)
unfolding side
screen_side_at_most min max zoom i j p q w z =
    narrow_at_most (53 + zoom_power) (mul binary64 (abs (sub binary64 max min)) zoom) (omega arith)
    (mul_at_most 53 zoom_power (abs (sub binary64 max min)) zoom (omega arith)
    (abs_at_most (sub binary64 max min) (j ⊕ negate i) (sub_integer binary64 max min j i (j ⊕ negate i) q p refl w) w)
    (zoom_at_most zoom z.positive z.most))

at_most_finite : (k : ℕ) (x : Float) → AtMostPower k x → T (is_finite x)
unfolding is_finite
at_most_finite k nan h = h
at_most_finite k (inf s) h = h
at_most_finite k (fin true m e) h = tt
at_most_finite k (fin false m e) h = tt

screen_side_finite : (min max zoom : Float) (i j : Integer) → IsInteger min i → IsInteger max j → Within (2 ^ 53) (j ⊕ negate i)
    → ZoomWithin zoom → T (is_finite (side min max zoom))
screen_side_finite min max zoom i j p q w z =
    at_most_finite (53 + zoom_power) (side min max zoom) (screen_side_at_most min max zoom i j p q w z)

-- ---- both sides, raised to the least size of fixed content or not
cond_finite : (c : Bool) (x y : Float) → T (is_finite x) → T (is_finite y) → T (is_finite (cond c x y))
cond_finite true x y p q = p
cond_finite false x y p q = q

raised_finite : (x : Float) → T (is_finite x) → T (is_finite (max_num x min_fixed_content_px))
unfolding max_num is_finite
raised_finite x h =
    let least = min_fixed_content_px in
    let raised = cond (lt x least) least x in
    cond_finite (is_nan x) least (cond (is_nan least) x raised) tt (cond_finite (is_nan least) x raised h (cond_finite (lt x least) least x tt h))

pub screen_size_finite : SizesFinite
unfolding reference_screen_size screen_size
screen_size_finite zoom degenerate b z zw i w =
    raise degenerate
    (screen_side_finite b.min_x b.max_x zoom z.min_x z.max_x i.min_x i.max_x w.width zw)
    (screen_side_finite b.min_y b.max_y zoom z.min_y z.max_y i.min_y i.max_y w.height zw)
  where
    raise : (d : Bool) → T (is_finite (side b.min_x b.max_x zoom)) → T (is_finite (side b.min_y b.max_y zoom))
        → T (is_finite (reference_screen_size b zoom d).width) × T (is_finite (reference_screen_size b zoom d).height)
    raise false p q = (p, q)
    raise true p q = (raised_finite (side b.min_x b.max_x zoom) p, raised_finite (side b.min_y b.max_y zoom) q)

-- ---- what the rules skip
third_holds : (a b c : Bool) → T a → T b → T (not a || not b || c) → T c
third_holds true true c p q t = t
third_holds false b c p q t = elim p [ ]
third_holds true false c p q t = elim q [ ]

pub subpixel_under_one_pixel : (zoom : Float) (degenerate : Bool) (b : WorldBBox) (z : IntegerBox) → ZoomWithin zoom → IsBox b z
    → SidesWithin (2 ^ 53) z
    → T (is_subpixel (reference_screen_size b zoom degenerate)) → T (is_under_one_pixel (reference_screen_size b zoom degenerate))
unfolding is_subpixel is_under_one_pixel
subpixel_under_one_pixel zoom degenerate b z zw i w t =
    let f = screen_size_finite zoom degenerate b z zw i w in
    let s = reference_screen_size b zoom degenerate in
    third_holds (is_finite s.width) (is_finite s.height) (lt s.width one_px && lt s.height one_px) f.0 f.1 t
