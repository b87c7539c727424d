-- A node point's layer and type are written, of which fields of two bytes hold the lowest two, and then the floats.
-- Assumes nothing.
use mathlib.Core.Path.{◌≡◌, ap, ◌∙◌}
use mathlib.Core.List.{List}
use Prim.Native.Nat.{ℕ, ◌%◌}
use lib.Seq.{sets}
use Rattle.fields.specs.Field.{uint_bytes}
use Rattle.fields.proofs.Writing.{uint_bytes_mod, record_written, done, ◌⨾◌}
use Rattle.tape.proofs.Left.{continued}
use Rattle.tape.proofs.kinds.PointRecord.put_body.Goals as goal

lowest_two : (d : List ℕ) (at n : ℕ) {r : List ℕ} → r ≡ sets d at (uint_bytes 2 (n % 65536)) → r ≡ sets d at (uint_bytes 2 n)
lowest_two d at n w = w ∙ ap (sets d at) (uint_bytes_mod 2 n)

pub returns : goal.returns
returns c = continued 2 _ _ _ (record_written (lowest_two _ _ _ c.put_u16.ensures ⨾ lowest_two _ _ _ c.put_u16-2.ensures ⨾ done)) c.put_all.ensures
