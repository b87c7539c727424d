-- `records::reader::read_at` meets its contract: of a record cut short the copy reads as the sheet does. Assumes nothing.
use mathlib.Core.Path.{ap, ◌∙◌}
use Prim.Native.Nat.{ℕ, ◌+◌}
use native.Mathlib.Omega.{arith}
use Rattle.fields.specs.Field.{uint_at}
use Rattle.records.specs.Reading.{ReadsAs}
use Rattle.records.proofs.Body.{uint_in}
use Rattle.records.proofs.reader.read_at.Goals as goal

pub within-requires : goal.within-requires
within-requires g c = omega (arith, c.length_from.ensures, c.END.ensures, g.met.R.Record.size)

pub returns : goal.returns
returns g c =
    let a = c.args in
    let tail = uint_in _ a.s.now a.at c.from.ensures in
    let read : ReadsAs c.padded.result a.s.now (a.at + a.place) =
    λ j k. c.padded.ensures j k ∙ tail (a.place + j) k ∙ ap (λ (m : ℕ). uint_at k a.s.now m) (omega arith) in
    c.within-2.ensures ∙ c.requires.same c.padded.result read
