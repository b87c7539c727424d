-- `check_record::finite::all_finite` meets its contract. The loop's invariant: what is left to test from here is the whole.
-- Assumes nothing.
use Prim.Native.Nat.{ℕ, ◌+◌, ◌*◌}
use mathlib.Core.Path.{◌≡◌, sym, ◌∙◌}
use mathlib.Core.List.{List}
use mathlib.Core.Bool.{Bool}
use lib.Ieee.{binary64, of_bits}
use Rattle.floats.specs.Order.{is_finite}
use Rattle.fields.specs.Field.{uint_at, f64_at}
use Rattle.check_record.proofs.Tests.{every_next, every_stop, every_done}
use Rattle.check_record.specs.Floats.{finite_at}
use Rattle.check_record.proofs.finite.all_finite.Goals as goal

is_finite_lem : (s : List ℕ) (at n : ℕ) (b : Bool) → n ≡ uint_at 8 s at → b ≡ is_finite (of_bits binary64 n) → finite_at s at ≡ b
unfolding finite_at f64_at
is_finite_lem s at n b e f = rw (f, e)

pub loop-i-preserved : goal.loop-i-preserved
loop-i-preserved c =
    let a = c.args in
    let finite = is_finite_lem a.s.now (a.from + 8 * c.loop-i.i) _ _ c.u64_within.ensures c.is_finite_pattern.ensures in
    sym (every_next (finite_at a.s.now) 8 a.count a.from c.loop-i.i c.loop-i-test.true (finite ∙ c.if-not-is_finite_pattern.false)) ∙ c.loop-i.invariant

pub returns-then-not-is_finite_pattern : goal.returns-then-not-is_finite_pattern
returns-then-not-is_finite_pattern c =
    let a = c.args in
    let finite = is_finite_lem a.s.now (a.from + 8 * c.loop-i.i) _ _ c.u64_within.ensures c.is_finite_pattern.ensures in
    sym (every_stop (finite_at a.s.now) 8 a.count a.from c.loop-i.i c.loop-i-test.true (finite ∙ c.if-not-is_finite_pattern.true)) ∙ c.loop-i.invariant

pub returns : goal.returns
returns c = let a = c.args in sym (every_done (finite_at a.s.now) 8 a.count a.from c.loop-i.i c.loop-i-test.false) ∙ c.loop-i.invariant
