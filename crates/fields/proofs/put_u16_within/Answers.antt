-- `fields::put_u16_within` meets its contract. Assumes nothing.
use native.Mathlib.Omega.{arith}
use Prim.Native.Nat.{ℕ, ◌%◌}
use mathlib.Core.Path.{ap₂}
use native.Mathlib.Numerals.{add-one}
use lib.ListN.{set, length-set}
use Rattle.fields.specs.Field.{uint_bytes}
use Rattle.fields.proofs.put_u16_within.Goals as goal

pub bounds-d-at-2 : goal.bounds-d-at-2
bounds-d-at-2 c = simp length-set (omega arith)

pub returns : goal.returns
unfolding uint_bytes
returns c =
    let a = c.args in
    ap₂ (λ (i v : ℕ). set (set a.d.now a.at (a.n % 256)) i v) (add-one a.at) (omega arith)
