-- One record of each kind, byte by byte: the order and the widths of its fields.
-- The floats 1, 2, 4, 8, 16 and 32 have the patterns 3FF0.., 4000.., 4010.., 4020.., 4030.. and 4040.. (hexadecimal).
-- Assumes nothing.
use mathlib.Core.Path.{◌≡◌, refl}
use mathlib.Core.List.{List, [], ◌∷◌, ◌++◌}
use Prim.Native.Nat.{ℕ}
use lib.Ieee.{nan}
use Rattle.geometry.specs.Bbox.{bbox}
use Rattle.records.specs.Sources.{no_label}
use Rattle.plan_rules.specs.declared.Reason.TheVariants as reason
use Rattle.plan_rules.specs.Event.{batch, text, point, proxy, dropped_proxy, totals, encode, scene_plan}
use Rattle.plan_rules.proofs.Cases.Opened.{opened}
use Rattle.plan_rules.specs.Samples.{whole, spot}

-- the last two bytes of a pattern whose others are 0
abbrev ends : ℕ → ℕ → List ℕ
ends low high = 0 ∷ 0 ∷ 0 ∷ 0 ∷ 0 ∷ 0 ∷ low ∷ high ∷ []

abbrev count : ℕ → List ℕ
count n = n ∷ 0 ∷ 0 ∷ 0 ∷ 0 ∷ 0 ∷ 0 ∷ 0 ∷ []

-- "11 batch: number 4, x axis, y axis, translation (6 f), length 58"
pub batch_bytes : encode (batch 0x1_0203 (record { xx = whole 1; xy = whole 2; yx = whole 4; yy = whole 8; tx = whole 16; ty = whole 32 }))
    ≡ (58 ∷ 0 ∷ 0 ∷ 0 ∷ 11 ∷ 0 ∷ 3 ∷ 2 ∷ 1 ∷ 0 ∷ []) ++ ends 0xf0 0x3f ++ ends 0 0x40 ++ ends 0x10 0x40 ++ ends 0x20 0x40 ++ ends 0x30 0x40 ++ ends 0x40 0x40
unfolding opened
batch_bytes = refl

-- "12 text: number 4, position 2 f, length 26"
pub text_bytes : encode (text 5 (spot 1 2)) ≡ (26 ∷ 0 ∷ 0 ∷ 0 ∷ 12 ∷ 0 ∷ 5 ∷ 0 ∷ 0 ∷ 0 ∷ []) ++ ends 0xf0 0x3f ++ ends 0 0x40
unfolding opened
text_bytes = refl

-- "13 node point: layer 2, type 2, position 2 f, length 26"
pub point_bytes : encode (point 0x102 3 (spot 1 2)) ≡ (26 ∷ 0 ∷ 0 ∷ 0 ∷ 13 ∷ 0 ∷ 2 ∷ 1 ∷ 3 ∷ 0 ∷ []) ++ ends 0xf0 0x3f ++ ends 0 0x40
unfolding opened
point_bytes = refl

-- "14 proxy: cell number as label, or FFFFFFFF (hexadecimal) for none, 4; box 4 f; length 42"
pub proxy_bytes : encode (proxy reason.CellLimit no_label (bbox (whole 1) (whole 2) (whole 4) (whole 8)))
    ≡ (42 ∷ 0 ∷ 0 ∷ 0 ∷ 14 ∷ 0 ∷ 0xff ∷ 0xff ∷ 0xff ∷ 0xff ∷ []) ++ ends 0xf0 0x3f ++ ends 0 0x40 ++ ends 0x10 0x40 ++ ends 0x20 0x40
unfolding opened
proxy_bytes = refl

-- "15 totals, last: the six of `SceneStats` in its field order, 8 each", and document 02's seventh: "Their record has 62 bytes"
pub totals_bytes : encode (totals (scene_plan 8 9 10 1 2 3 4 5 6 7)) ≡ (62 ∷ 0 ∷ 0 ∷ 0 ∷ 15 ∷ 0 ∷ []) ++ count 1 ++ count 2 ++ count 3 ++ count 4 ++ count 5 ++ count 6 ++ count 7
unfolding opened
totals_bytes = refl

-- "Any NaN is written 7FF8000000000000 (hexadecimal)."
pub nan_bytes : encode (text 0 (record { x = nan; y = nan })) ≡ (26 ∷ 0 ∷ 0 ∷ 0 ∷ 12 ∷ 0 ∷ 0 ∷ 0 ∷ 0 ∷ 0 ∷ []) ++ ends 0xf8 0x7f ++ ends 0xf8 0x7f
unfolding opened
nan_bytes = refl

-- "A full proxy list drops further proxies silently": a dropped one has no record.
pub dropped_bytes : encode (dropped_proxy reason.CellLimit 0 (bbox (whole 1) (whole 2) (whole 4) (whole 8))) ≡ []
unfolding opened
dropped_bytes = refl
