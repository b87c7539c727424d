-- A record has no refusal just where it passes questions 2 to 5.
-- Assumes nothing.
use mathlib.Core.Path.{◌≡◌, refl, sym, ap, ◌∙◌}
use Prim.Native.Nat.{ℕ, ◌+◌, ◌≤◌}
use native.Mathlib.Omega.{arith}
use mathlib.Core.List.{List}
use mathlib.Core.Bool.{Bool, true, false, cond}
use lib.ListN.{length}
use lib.Dec.{eqb}
use borrow.Author.Tests.{leb-true, le-leb}
use Rattle.walk.specs.Offsets.{Whole}
use Rattle.check_record.proofs.Tests.{both_true, both_first, both_second}
use Rattle.check_record.specs.Frame.{frame_ok}
use Rattle.std.specs.Prelude.{Ok, Err}
use Rattle.check_record.specs.declared.RecordError.{RecordError}
use Rattle.check_record.specs.declared.RecordError.TheVariants as no
use Rattle.check_record.specs.Record.{CheckedRecord, check_record, refusal_of, record_refusal, Right}

pub frame_whole : (s : List ℕ) (at : ℕ) → frame_ok s at ≡ true → Whole s at
unfolding frame_ok
frame_whole s at e =
    let length-ok = both_second _ _ e in
    record { head = leb-true _ _ (both_first _ _ length-ok); within = leb-true _ _ (both_second _ _ length-ok) }

pub whole_frame : (s : List ℕ) (at : ℕ) → Whole s at → frame_ok s at ≡ true
unfolding frame_ok
whole_frame s at w =
    let six-left : at + 6 ≤ length s = omega arith in
    both_true (le-leb _ _ six-left) (both_true (le-leb _ _ w.head) (le-leb _ _ w.within))

-- a test that says its no was passed where there is none
yes : (b : Bool) (x : CheckedRecord) (e : RecordError) → refusal_of (cond b x (Err e)) ≡ 0 → (b ≡ true) × (refusal_of x ≡ 0)
yes true x e h = (refl, h)
yes false x no.Frame h = absurd (omega arith)
yes false x no.Shape h = absurd (omega arith)
yes false x no.Values h = absurd (omega arith)
yes false x no.Floats h = absurd (omega arith)

-- no question has a no just where the record is right
pub no_zero_right : (s : List ℕ) (at : ℕ) → record_refusal s at ≡ 0 → Right s at
unfolding check_record
no_zero_right s at e =
    let frame = yes _ _ _ e in
    let shape = yes _ _ _ frame.1 in
    let values = yes _ _ _ shape.1 in
    let floats = yes _ _ _ values.1 in
    record { whole = frame_whole s at frame.0; shape = shape.0; values = values.0; floats = floats.0 }

pub passing_right : (s : List ℕ) (at : ℕ) {u : Unit} → check_record s at ≡ Ok u → Right s at
passing_right s at e = no_zero_right s at (ap refusal_of e)

pub right_passes : (s : List ℕ) (at : ℕ) → Right s at → check_record s at ≡ Ok tt
unfolding check_record
right_passes s at r = rw (whole_frame s at r.whole, r.shape, r.values, r.floats)

-- answers with the same number are the same
answer : ℕ → CheckedRecord
answer n = cond (eqb n 0) (Ok tt) (cond (eqb n 2) (Err no.Frame) (cond (eqb n 3) (Err no.Shape) (cond (eqb n 4) (Err no.Values) (Err no.Floats))))

answer_lem : (r : CheckedRecord) → answer (refusal_of r) ≡ r
unfolding answer
answer_lem (Ok none) = refl
answer_lem (Err no.Frame) = refl
answer_lem (Err no.Shape) = refl
answer_lem (Err no.Values) = refl
answer_lem (Err no.Floats) = refl

-- A caller of `check_record` who takes its answer apart cites this with what it ensures.
pub checked_as : (s : List ℕ) (at : ℕ) (r : CheckedRecord) → refusal_of r ≡ record_refusal s at → r ≡ check_record s at
checked_as s at r e = sym (answer_lem r) ∙ ap answer e ∙ answer_lem (check_record s at)
