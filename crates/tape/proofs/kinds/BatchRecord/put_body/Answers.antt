-- A batch's number is written, and then the floats. Assumes nothing.
use Rattle.fields.proofs.Writing.{record_written, done, ◌⨾◌}
use Rattle.tape.proofs.Left.{continued}
use Rattle.tape.proofs.kinds.BatchRecord.put_body.Goals as goal

pub returns : goal.returns
returns c = continued 1 _ _ _ (record_written (c.put_u32.ensures ⨾ done)) c.put_all.ensures
