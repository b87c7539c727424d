-- `check_sheet::check_sheet` meets its contract: each way through the code is one of the answers by what leads to it.
-- Assumes nothing.
use mathlib.Core.Path.{◌≡◌, sym, ap, ◌∙◌}
use Prim.Native.Nat.{ℕ}
use mathlib.Core.List.{List}
use native.Mathlib.Omega.{arith}
use Rattle.walk.specs.Offsets.{offsets}
use Rattle.walk.specs.Find.{count_of}
use Rattle.walk.specs.Every.{All}
use Rattle.check_record.specs.Record.{Right}
use Rattle.check_sheet.specs.declared.Counts.{Counts}
use Rattle.std.specs.Prelude.{Ok, Err, IsErrAnd}
use Rattle.check_sheet.specs.declared.SheetError.{SheetError}
use Rattle.check_sheet.specs.Check.{Checked}
use Rattle.check_sheet.specs.Count.{counts_of}
use Rattle.check_sheet.specs.Check.{first_no, first_unnamed, verdict}
use Rattle.check_sheet.proofs.Passes.{sound_all_right}
use Rattle.check_sheet.proofs.Answers.{too_long, record_refused, too_many_cells, then_links}
use Rattle.check_sheet.proofs.check_sheet.Goals as goal

-- what the first pass says where it answers counts
counted : (s : List ℕ) (c : Counts) → first_no s (offsets s) (Ok (counts_of s)) ≡ Ok c → All (Right s) (offsets s) × (c ≡ counts_of s) × (c.cells ≡ count_of s 5)
unfolding counts_of
counted s c e =
    let r = sound_all_right s (offsets s) (Ok (counts_of s)) c e in
    let f = r.1 in
    let same : c ≡ counts_of s = cc in
    (r.0, same, ap (λ (x : Counts). x.cells) same)

-- what `?` hands on
given : (r : Checked) (e : SheetError) → IsErrAnd r (λ x. x ≡ e) → r ≡ Err e
given (Err x) e h = ap Err h
given (Ok c) e h = absurd h

pub returns-then-s-gt-MAX_SHEET_BYTES : goal.returns-then-s-gt-MAX_SHEET_BYTES
returns-then-s-gt-MAX_SHEET_BYTES c = ap verdict (sym (too_long _ c.if-s-gt-MAX_SHEET_BYTES.true))

pub returns-then-counts-gt-MAX_CELLS : goal.returns-then-counts-gt-MAX_CELLS
returns-then-counts-gt-MAX_CELLS c =
    let known = counted c.args.s.now _ (sym c.scan.ensures ∙ c.in_ok-counts.was) in
    ap verdict (sym (too_many_cells _ (omega arith) known.0 (omega arith)))

pub links-requires : goal.links-requires
links-requires c =
    let known = counted c.args.s.now _ (sym c.scan.ensures ∙ c.in_ok-counts.was) in
    record { s_len_bound = omega arith; all = known.0; c_value = known.1 }

pub returns-in_err-counts : goal.returns-in_err-counts
returns-in_err-counts c = ap verdict (given _ _ c.from_residual.ensures.1) ∙ ap verdict (sym (record_refused _ (omega arith) _ _ (sym c.scan.ensures ∙ c.in_err-counts.was)))

pub returns : goal.returns
returns c =
    let s = c.args.s.now in
    let known = counted s _ (sym c.scan.ensures ∙ c.in_ok-counts.was) in
    ap verdict (c.links.ensures
    ∙ ap (λ (x : Counts). first_unnamed s x 0 (offsets s) (Ok x)) known.1
    ∙ sym (then_links s (omega arith) known.0 (omega arith)))
