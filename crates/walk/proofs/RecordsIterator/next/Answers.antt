-- `next` of `walk::Records` meets its contract. Assumes nothing.
use mathlib.Core.Path.{sym, ap, ◌∙◌}
use mathlib.Core.List.{◌∷◌}
use Prim.Native.Nat.{ℕ}
use native.Mathlib.Omega.{arith}
use lib.ListN.{length}
use Rattle.walk.specs.Heads.{heads_at}
use Rattle.walk.specs.Offsets.{offsets_from}
use Rattle.walk.proofs.Offsets.{offsets_end}
use Rattle.walk.proofs.RecordsIterator.next.Goals as goal

pub returns-then-at-self-clause-steps : goal.returns-then-at-self-clause-steps
returns-then-at-self-clause-steps c =
    let r = c.args.self.now in
    let none = ap (heads_at r.sheet.now) (offsets_end r.sheet.now r.at c.if-at-self.true) in
    (none, none)

pub returns-clause-steps : goal.returns-clause-steps
returns-clause-steps c =
    let r = c.args.self.now in
    let s = r.sheet.now in
    ap (heads_at s) c.next_at-self.ensures
    ∙ ap (λ (kind : ℕ). record { at = r.at; kind = kind } ∷ heads_at s (offsets_from s c.next_at-self.result)) (sym c.u16_at.ensures)

pub returns-clause-goes : goal.returns-clause-goes
returns-clause-goes c = let steps = ap length (returns-clause-steps c) in record { on = λ _. (tt, tt, omega (arith, steps)); keeps = tt; rests = λ _. tt }
