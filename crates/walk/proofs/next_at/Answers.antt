-- `walk::next_at` meets its contract. Assumes nothing.
use Prim.Native.Nat.{ℕ, ◌+◌}
use mathlib.Core.Path.{sym, ap, ◌∙◌}
use mathlib.Core.List.{◌∷◌}
use native.Mathlib.Omega.{arith}
use Rattle.walk.specs.Offsets.{offsets_from}
use Rattle.walk.proofs.Offsets.{offsets_more, offsets_last}
use Rattle.walk.proofs.next_at.Goals as goal

pub overflow_cast-size : goal.overflow_cast-size
overflow_cast-size c = omega (arith, c.requires.s_len_bound)

-- a record whose head is cut short is shorter than a head, or reaches past the sheet
pub returns-then-size-at : goal.returns-then-size-at
returns-then-size-at c = offsets_last c.args.s.now c.args.at c.requires.within (λ h. omega (arith, h))

pub returns-then-length : goal.returns-then-length
returns-then-length c = offsets_last c.args.s.now c.args.at c.requires.within (λ h. omega (arith, h, c.u32_within-length.ensures))

pub returns-then-size-at-2 : goal.returns-then-size-at-2
returns-then-size-at-2 c = offsets_last c.args.s.now c.args.at c.requires.within (λ h. omega (arith, h, c.u32_within-length.ensures))

pub returns : goal.returns
returns c =
    let s = c.args.s.now in
    let at = c.args.at in
    offsets_more s at c.requires.within (omega (arith, c.u32_within-length.ensures))
    ∙ ap (λ (n : ℕ). at ∷ offsets_from s (at + n)) (sym c.u32_within-length.ensures)
