-- `open_sheet::open_sheet` meets its contract: each way through the code is one of the answers by what leads to it.
-- Assumes nothing.
use mathlib.Core.Path.{◌≡◌, sym, ap, ap₂, ◌∙◌}
use mathlib.Core.List.{List}
use Prim.Native.Nat.{ℕ, ◌+◌}
use native.Mathlib.Omega.{arith}
use Rattle.std.specs.Prelude.{Ok, Err, IsErrAnd}
use Rattle.check_sheet.specs.declared.Counts.{Counts}
use Rattle.check_sheet.specs.declared.SheetError.{SheetError}
use Rattle.check_sheet.specs.Check.{Checked, check_sheet, verdict, verdict_of}
use Rattle.check_sheet.proofs.Verdict.{checked_as}
use Rattle.check_sheet.proofs.Valid.{sound_valid, sound_counts}
use Rattle.open_sheet.specs.declared.OpenError.{OpenError}
use Rattle.open_sheet.specs.declared.OpenError.TheVariants.{Sheet, NoRoom}
use Rattle.open_sheet.specs.Opening.{Opened, opening, opening_of}
use Rattle.open_sheet.proofs.Answers.{opening_by, places_taken, opened_short, opened_filled}
use Rattle.open_sheet.proofs.open_sheet.Goals as goal

-- a refused sheet: what `?` hands on
refused : (s f : List ℕ) {r : Checked} (opened : Opened) {e : SheetError} → verdict r ≡ verdict_of s → r ≡ Err e
    → IsErrAnd opened (λ x. x ≡ Sheet e) → opening opened f ≡ opening_of s f
refused s f (Err x) answered was h =
    ap (λ (y : OpenError). opening (Err y) f) h ∙ sym (opening_by s f _ (sym (checked_as s _ answered) ∙ was))
refused s f (Ok places) answered was h = absurd h

pub returns-in_err-counts : goal.returns-in_err-counts
returns-in_err-counts c = refused _ _ _ c.check_sheet.ensures c.in_err-counts.was c.from_residual.ensures.1

sound : (s : List ℕ) {r : Checked} {counts : Counts} → verdict r ≡ verdict_of s → r ≡ Ok counts → check_sheet s ≡ Ok counts
sound s answered was = sym (checked_as s _ answered) ∙ was

pub returns-then-finder-places : goal.returns-then-finder-places
returns-then-finder-places c =
    let s = c.args.sheet.now in
    let known = sound s c.check_sheet.ensures c.in_ok-counts.was in
    let counted = ap₂ ◌+◌ c.start_for.ensures.value c.count_for.ensures in
    ap (opening (Err (NoRoom (c.start_for.result + c.count_for.result)))) (c.fill.ensures.after (λ y same. same)) ∙ sym (opened_short _ _ known _ counted _ (omega arith))

pub place_records-requires : goal.place_records-requires
place_records-requires c =
    let s = c.args.sheet.now in
    let known = sound s c.check_sheet.ensures c.in_ok-counts.was in
    let counted = ap₂ ◌+◌ c.start_for.ensures.value c.count_for.ensures in
    record { valid = sound_valid s _ known; c_value = sound_counts s _ known; sheet_in_bounds = omega (arith, places_taken s _ known _ counted) }

pub returns : goal.returns
returns c =
    let s = c.args.sheet.now in
    let known = sound s c.check_sheet.ensures c.in_ok-counts.was in
    let counted = ap₂ ◌+◌ c.start_for.ensures.value c.count_for.ensures in
    ap (opening (Ok (c.start_for.result + c.count_for.result))) c.place_records.ensures ∙ sym (opened_filled s _ known _ counted _ (omega arith))
