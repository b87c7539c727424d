-- `check_sheet::links::all_below` meets its contract. The loop's invariant: what is left to test from here is the whole.
-- Assumes nothing.
use Prim.Native.Nat.{ℕ, ◌+◌, ◌*◌, ◌≤◌, ◌<◌}
use mathlib.Core.Path.{◌≡◌, sym, ◌∙◌}
use native.Mathlib.Omega.{arith}
use mathlib.Core.List.{List}
use mathlib.Core.Bool.{true, false}
use borrow.Author.Tests.{lt-ltb, le-ltb}
use Rattle.fields.specs.Field.{uint_at}
use Rattle.check_record.proofs.Tests.{every_next, every_stop, every_done}
use Rattle.check_sheet.specs.Links.{below_at}
use Rattle.check_sheet.proofs.links.all_below.Goals as goal

module _ (s : List ℕ) (bound at : ℕ) where
  below : uint_at 4 s at < bound → below_at s bound at ≡ true
  unfolding below_at
  below h = lt-ltb _ _ h

  not_below : bound ≤ uint_at 4 s at → below_at s bound at ≡ false
  unfolding below_at
  not_below h = le-ltb _ _ h

pub loop-i-preserved : goal.loop-i-preserved
loop-i-preserved c =
    let a = c.args in
    let here = below a.s.now a.bound (a.from + 4 * c.loop-i.i) (omega arith) in
    sym (every_next (below_at a.s.now a.bound) 4 a.count a.from c.loop-i.i c.loop-i-test.true here) ∙ c.loop-i.invariant

pub returns-then-bound-u32_within : goal.returns-then-bound-u32_within
returns-then-bound-u32_within c =
    let a = c.args in
    let here = not_below a.s.now a.bound (a.from + 4 * c.loop-i.i) (omega arith) in
    sym (every_stop (below_at a.s.now a.bound) 4 a.count a.from c.loop-i.i c.loop-i-test.true here) ∙ c.loop-i.invariant

pub returns : goal.returns
returns c = let a = c.args in sym (every_done (below_at a.s.now a.bound) 4 a.count a.from c.loop-i.i c.loop-i-test.false) ∙ c.loop-i.invariant
