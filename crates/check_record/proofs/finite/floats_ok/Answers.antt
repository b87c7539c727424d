-- `check_record::finite::floats_ok` meets its contract. A record's floats lie within it, by its length.
-- Assumes nothing.
use Prim.Native.Nat.{ℕ, ◌+◌, ◌*◌, ◌≤◌}
use mathlib.Core.List.{List}
use mathlib.Core.Bool.{true}
use mathlib.Core.Path.{◌≡◌, refl, ap, ap₂, ◌∙◌}
use lib.ListN.{length}
use Rattle.walk.specs.Offsets.{length_at, kind_at, Whole}
use Rattle.check_record.specs.Shape.{shape_ok}
use Rattle.check_record.specs.Floats.{floats_from, floats_count, floats_ok}
use native.Mathlib.Omega.{arith}
use Rattle.check_record.proofs.Facts.Lengths.{floats_within}
use Rattle.check_record.proofs.finite.floats_ok.Goals as goal

room : (s : List ℕ) (at from count : ℕ) → Whole s at → shape_ok s at ≡ true → from ≡ floats_from (kind_at s at) → count ≡ floats_count (kind_at s at) (length_at s at)
    → at + from + 8 * count ≤ length s
room s at from count w h e f = omega (arith, floats_within s at h)

pub overflow_add-at-2 : goal.overflow_add-at-2
overflow_add-at-2 c =
    let p = c.requires in
    omega (arith, room _ _ _ _ p.whole p.at_value (c.floats_from.ensures ∙ ap floats_from c.u16_within-kind.ensures) refl)

pub floats_count-requires : goal.floats_count-requires
floats_count-requires c = omega (arith, floats_within _ _ c.requires.at_value)

pub all_finite-requires : goal.all_finite-requires
all_finite-requires c =
    let p = c.requires in
    let kind = c.u16_within-kind.ensures in
    room _ _ _ _ p.whole p.at_value (c.floats_from.ensures ∙ ap floats_from kind) (c.floats_count.ensures ∙ ap₂ floats_count kind c.u32_within-n.ensures)

pub returns : goal.returns
unfolding floats_ok
returns c = cc
