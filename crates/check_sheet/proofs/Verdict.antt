-- The verdict says all that an answer does: answers with the same number, offset and counts are the same.
-- A caller of `check_sheet` who takes its answer apart cites `checked_as` with what it ensures.
-- Assumes nothing.
use mathlib.Core.Path.{◌≡◌, refl, sym, ap, ◌∙◌}
use Prim.Native.Nat.{ℕ}
use mathlib.Core.List.{List}
use mathlib.Core.Option.{Option, none, some}
use mathlib.Core.Bool.{cond}
use lib.Dec.{eqb}
use Rattle.std.specs.Prelude.{Ok, Err}
use Rattle.check_record.specs.declared.RecordError.TheVariants as no
use Rattle.check_sheet.specs.declared.Counts.{Counts}
use Rattle.check_sheet.specs.declared.SheetError.TheVariants.{TooLong, Record, NamesMissing, TooManyCells}
use Rattle.check_sheet.specs.Check.{Checked, check_sheet, Verdict, verdict, verdict_of}

-- the answer of a verdict
answer : ℕ → ℕ → Option Counts → Checked
answer n at (some c) = Ok c
answer n at none =
    Err
    (cond (eqb n 1) TooLong
    (cond (eqb n 2) (Record no.Frame at)
    (cond (eqb n 3) (Record no.Shape at)
    (cond (eqb n 4) (Record no.Values at)
    (cond (eqb n 5) (Record no.Floats at)
    (cond (eqb n 6) (NamesMissing at) TooManyCells))))))

abbrev answer_of : Verdict → Checked
answer_of v = answer v.number v.offset v.counts

answer_lem : (r : Checked) → answer_of (verdict r) ≡ r
unfolding answer
answer_lem (Ok c) = refl
answer_lem (Err TooLong) = refl
answer_lem (Err (Record no.Frame at)) = refl
answer_lem (Err (Record no.Shape at)) = refl
answer_lem (Err (Record no.Values at)) = refl
answer_lem (Err (Record no.Floats at)) = refl
answer_lem (Err (NamesMissing at)) = refl
answer_lem (Err TooManyCells) = refl

pub verdict_tells : (r x : Checked) → verdict r ≡ verdict x → r ≡ x
verdict_tells r x e = sym (answer_lem r) ∙ ap answer_of e ∙ answer_lem x

pub checked_as : (s : List ℕ) (r : Checked) → verdict r ≡ verdict_of s → r ≡ check_sheet s
checked_as s r e = verdict_tells r (check_sheet s) e
