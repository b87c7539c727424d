-- `walk::records` meets its contract. Assumes nothing.
use mathlib.Core.Path.{sym, ap, ◌∙◌}
use mathlib.Core.List.{[]}
use native.Mathlib.Omega.{arith}
use Rattle.walk.specs.Heads.{heads_at}
use Rattle.walk.proofs.Offsets.{offsets_within, offsets_beyond, offsets_end}
use Rattle.walk.proofs.records.Goals as goal

pub returns-then-sheet-gt-MAX_SHEET_BYTES : goal.returns-then-sheet-gt-MAX_SHEET_BYTES
returns-then-sheet-gt-MAX_SHEET_BYTES c =
    let s = c.args.sheet.now in
    ap (heads_at []) (offsets_end [] 0 (omega arith)) ∙ sym (ap (heads_at s) (offsets_beyond s c.if-sheet-gt-MAX_SHEET_BYTES.true))

pub returns : goal.returns
returns c = let s = c.args.sheet.now in sym (ap (heads_at s) (offsets_within s c.if-sheet-gt-MAX_SHEET_BYTES.false))
