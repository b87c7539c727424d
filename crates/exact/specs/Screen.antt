-- Sizes on the screen: the zooms for which every size is finite, and what is under one pixel.
-- Definitions and a statement, which is proved in proofs/Screen/Sizes.antt.
use Rattle.std.specs.Prelude.{Bool, false, ◌&&◌, ℕ, ◌^◌, T, pos, Float}
use Rattle.std.specs.Float.{fin}
use Rattle.std.specs.Float.Ieee.{lt, le}
use Rattle.floats.specs.Order.{is_finite}
use Rattle.geometry.specs.declared.bbox.WorldBBox.{WorldBBox}
use Rattle.screen.specs.declared.ScreenSize.{ScreenSize}
use Rattle.screen.specs.Screen.{one_px, reference_screen_size}
use Rattle.exact.specs.Box.{IntegerBox, IsBox, SidesWithin}

-- zoom above 0 and up to 2 ^ 64
abbrev pub zoom_power : ℕ
zoom_power = 64

pub record ZoomWithin (zoom : Float) : Type 0 where
  pub positive : T (lt (fin false 0 (pos 0)) zoom)
  pub most : T (le zoom (fin false 1 (pos zoom_power)))

-- "under one pixel in width and in height"
unfoldable pub is_under_one_pixel : ScreenSize → Bool
is_under_one_pixel s = lt s.width one_px && lt s.height one_px

-- A box of integers with sides up to 2 ^ 53 has a finite size on the screen.
abbrev pub SizesFinite : Type 0
SizesFinite =
    (zoom : Float) (degenerate : Bool) (b : WorldBBox) (z : IntegerBox) → ZoomWithin zoom → IsBox b z → SidesWithin (2 ^ 53) z
    → T (is_finite (reference_screen_size b zoom degenerate).width) × T (is_finite (reference_screen_size b zoom degenerate).height)
