-- `tape::record::put` meets its contract: the head is written, and then the body. Assumes nothing.
use mathlib.Core.Path.{◌≡◌, ap, ◌∙◌}
use Prim.Native.Nat.{ℕ, ◌+◌}
use native.Mathlib.Omega.{arith}
use lib.Seq.{sets}
use Rattle.fields.specs.Field.{uint_bytes, widths}
use Rattle.fields.specs.Head.{head_width}
use Rattle.fields.proofs.Writing.{record_written, done, ◌⨾◌}
use Rattle.tape.proofs.Left.{continued}
use Rattle.tape.proofs.record.put.Goals as goal

pub returns : goal.returns
returns g c =
    let a = c.args in
    let size : g.R.Record.SIZE ≡ head_width + widths (g.R.Record.body a.listed.now) = omega (arith, g.met.R.Record.sized a.listed.now) in
    continued 2 _ _ _
    (record_written
    ((c.put_u32.ensures ∙ ap (λ (n : ℕ). sets a.out.now a.at (uint_bytes 4 n)) (c.SIZE.ensures ∙ size))
    ⨾ (c.put_u16.ensures ∙ ap (λ (n : ℕ). sets c.put_u32.new.d (a.at + 4) (uint_bytes 2 n)) c.KIND.ensures)
    ⨾ done))
    c.put_body.ensures
