-- `fields::put_byte` meets its contract. Assumes nothing.
use mathlib.Core.Path.{sym, ap}
use native.Mathlib.Nat.{mod-eq_of_lt}
use lib.ListN.{set}
use Rattle.fields.specs.Field.{uint_bytes}
use Rattle.fields.proofs.Halves.{write_past_end}
use borrow.Author.Rules.{rules}
use Rattle.fields.proofs.put_byte.Goals as goal

pub returns-then-at-d : goal.returns-then-at-d
unfolding uint_bytes
returns-then-at-d c =
    let a = c.args in
    ap (set a.d.now a.at) (sym (mod-eq_of_lt (search rules)))

pub returns-else-at-d : goal.returns-else-at-d
returns-else-at-d c =
    let a = c.args in
    write_past_end 1 a.n a.d.now a.at c.if-at-d.false
