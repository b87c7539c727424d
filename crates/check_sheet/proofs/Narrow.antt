-- Paper 4's statement of questions 1 to 7, proved.
-- Assumes nothing.
use mathlib.Core.Path.{◌≡◌, refl, ap, ◌∙◌}
use Prim.Native.Nat.{ℕ}
use native.Mathlib.Omega.{arith}
use mathlib.Core.List.{List, ◌∷◌}
use mathlib.Core.Bool.{Bool, true, false}
use Rattle.walk.specs.Narrow.{ReachesPast}
use Rattle.check_record.specs.Frame.{frame_ok}
use Rattle.check_record.specs.declared.RecordError.TheVariants as no
use Rattle.check_record.specs.Record.{check_record}
use Rattle.check_record.proofs.RightRecords.{frame_whole}
use Rattle.std.specs.Prelude.{Ok, Err}
use Rattle.check_sheet.specs.declared.SheetError.TheVariants.{Record}
use Rattle.check_sheet.specs.Count.{counts_of}
use Rattle.check_sheet.specs.Check.{first_no}
use Rattle.check_sheet.specs.Narrow.{LongLengthIsRefused}
use Rattle.check_sheet.proofs.Passes.{first_no_stop, right_passed}
use Rattle.check_sheet.proofs.Answers.{record_refused}

-- question 2 has the no
past_refused : (s : List ℕ) (at : ℕ) → ReachesPast s at → check_record s at ≡ Err no.Frame
unfolding check_record
past_refused s at past = by_frame (frame_ok s at) refl
  where
    by_frame : (b : Bool) → frame_ok s at ≡ b → check_record s at ≡ Err no.Frame
    by_frame true e = let w = frame_whole s at e in absurd (omega (arith, w.within))
    by_frame false e = rw e

pub long_length_is_refused : LongLengthIsRefused
long_length_is_refused s before after at short e right past =
    let sound = Ok (counts_of s) in
    record_refused s short (counts_of s) (Record no.Frame at)
    (ap (λ (xs : List ℕ). first_no s xs sound) e
    ∙ right_passed s before (at ∷ after) sound right
    ∙ first_no_stop s at after sound (past_refused s at past))
