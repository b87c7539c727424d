-- The two passes over the records, step by step.
-- Assumes nothing.
use mathlib.Core.Path.{◌≡◌, refl, sym, ap, ◌∙◌}
use Prim.Native.Nat.{ℕ}
use native.Mathlib.Omega.{arith}
use mathlib.Core.List.{List, [], ◌∷◌, ◌++◌, append-nil}
use mathlib.Core.Bool.{Bool, true, false}
use Rattle.walk.specs.Offsets.{kind_at}
use Rattle.walk.specs.Every.{All}
use Rattle.check_record.specs.declared.RecordError.{RecordError}
use Rattle.check_record.specs.Record.{CheckedRecord, check_record, Right}
use Rattle.check_record.proofs.RightRecords.{passing_right, right_passes}
use Rattle.check_sheet.specs.declared.Counts.{Counts}
use Rattle.check_sheet.specs.Check.{Checked}
use Rattle.std.specs.Prelude.{Ok, Err}
use Rattle.check_sheet.specs.declared.SheetError.{SheetError}
use Rattle.check_sheet.specs.declared.SheetError.TheVariants.{Record, NamesMissing}
use Rattle.check_sheet.specs.Count.{tallied}
use Rattle.check_sheet.specs.Links.{link_ok}
use Rattle.check_sheet.specs.Check.{first_no, first_unnamed}
use Rattle.check_sheet.specs.Valid.{AllNamed}

module _ (s : List ℕ) (at : ℕ) (xs : List ℕ) (later : Checked) where
  pub first_no_pass : {u : Unit} → check_record s at ≡ Ok u → first_no s (at ∷ xs) later ≡ first_no s xs later
  unfolding first_no
  first_no_pass e = rw e

  pub first_no_stop : {e : RecordError} → check_record s at ≡ Err e → first_no s (at ∷ xs) later ≡ Err (Record e at)
  unfolding first_no
  first_no_stop e = rw e

-- records that are right are passed
pub right_passed : (s before xs : List ℕ) (later : Checked) → All (Right s) before → first_no s (before ++ xs) later ≡ first_no s xs later
right_passed s [] xs later h = refl
right_passed s (at ∷ before) xs later h = first_no_pass s at (before ++ xs) later (right_passes s at h.0) ∙ right_passed s before xs later h.1

-- where every record is right, the answer is that of the later questions
pub all_right_later : (s : List ℕ) (xs : List ℕ) (later : Checked) → All (Right s) xs → first_no s xs later ≡ later
unfolding first_no
all_right_later s xs later h = ap (λ (l : List ℕ). first_no s l later) (sym (append-nil xs)) ∙ right_passed s xs [] later h

-- else the later questions are not asked
pub data Scanned (s : List ℕ) (xs : List ℕ) : Type 0 where
  every_right : All (Right s) xs → Scanned s xs
  refused : (e : SheetError) → ((later : Checked) → first_no s xs later ≡ Err e) → Scanned s xs

scanned_step : (s : List ℕ) (at : ℕ) (xs : List ℕ) → Scanned s xs → (r : CheckedRecord) → check_record s at ≡ r → Scanned s (at ∷ xs)
scanned_step s at xs (every_right h) (Ok u) e = every_right (passing_right s at e, h)
scanned_step s at xs (refused x f) (Ok u) e = refused x (λ later. first_no_pass s at xs later e ∙ f later)
scanned_step s at xs r (Err x) e = refused (Record x at) (λ later. first_no_stop s at xs later e)

pub scanned : (s : List ℕ) (xs : List ℕ) → Scanned s xs
scanned s [] = every_right tt
scanned s (at ∷ xs) = scanned_step s at xs (scanned s xs) (check_record s at) refl

-- a sound answer is that of the later questions, with every record right
sound_scanned : (s : List ℕ) (xs : List ℕ) (later : Checked) (c : Counts) → Scanned s xs → first_no s xs later ≡ Ok c → All (Right s) xs × (later ≡ Ok c)
sound_scanned s xs later c (every_right h) e = (h, sym (all_right_later s xs later h) ∙ e)
sound_scanned s xs later c (refused x f) e = let z : ◌≡◌ {A = ℕ} 0 1 = cc (f later) in absurd (omega arith)

pub sound_all_right : (s : List ℕ) (xs : List ℕ) (later : Checked) (c : Counts) → first_no s xs later ≡ Ok c → All (Right s) xs × (later ≡ Ok c)
sound_all_right s xs later c e = sound_scanned s xs later c (scanned s xs) e

-- a record that is refused before a sound answer is refused before any
refused_scanned : (s : List ℕ) (xs : List ℕ) (c : Counts) (x : SheetError) → Scanned s xs → first_no s xs (Ok c) ≡ Err x → (later : Checked) → first_no s xs later ≡ Err x
refused_scanned s xs c x (every_right h) e later = let z : ◌≡◌ {A = ℕ} 0 1 = cc (all_right_later s xs (Ok c) h) in absurd (omega arith)
refused_scanned s xs c x (refused y f) e later = f later ∙ sym (f (Ok c)) ∙ e

pub refused_before_any : (s : List ℕ) (xs : List ℕ) (c : Counts) (x : SheetError) → first_no s xs (Ok c) ≡ Err x → (later : Checked) → first_no s xs later ≡ Err x
refused_before_any s xs c x e later = refused_scanned s xs c x (scanned s xs) e later

module _ (s : List ℕ) (c : Counts) (own at : ℕ) (xs : List ℕ) (later : Checked) where
  pub first_unnamed_pass : link_ok s c own at ≡ true → first_unnamed s c own (at ∷ xs) later ≡ first_unnamed s c (tallied own (kind_at s at) 4) xs later
  unfolding first_unnamed
  first_unnamed_pass e = rw e

  pub first_unnamed_stop : link_ok s c own at ≡ false → first_unnamed s c own (at ∷ xs) later ≡ Err (NamesMissing at)
  unfolding first_unnamed
  first_unnamed_stop e = rw e

pub all_named_later : (s : List ℕ) (c : Counts) (own : ℕ) (xs : List ℕ) (later : Checked) → AllNamed s c own xs → first_unnamed s c own xs later ≡ later
unfolding first_unnamed
all_named_later s c own [] later h = refl
all_named_later s c own (at ∷ xs) later h =
    first_unnamed_pass s c own at xs later h.0 ∙ all_named_later s c (tallied own (kind_at s at) 4) xs later h.1

named_step : (s : List ℕ) (c d : Counts) (own at : ℕ) (xs : List ℕ)
    → (first_unnamed s c (tallied own (kind_at s at) 4) xs (Ok c) ≡ Ok d → AllNamed s c (tallied own (kind_at s at) 4) xs × (c ≡ d))
    → (b : Bool) → link_ok s c own at ≡ b → first_unnamed s c own (at ∷ xs) (Ok c) ≡ Ok d → ((b ≡ true) × AllNamed s c (tallied own (kind_at s at) 4) xs) × (c ≡ d)
named_step s c d own at xs more true e f =
    let r = more (sym (first_unnamed_pass s c own at xs (Ok c) e) ∙ f) in
    ((refl, r.0), r.1)
named_step s c d own at xs more false e f = let z : ◌≡◌ {A = ℕ} 0 1 = cc (first_unnamed_stop s c own at xs (Ok c) e) in absurd (omega arith)

-- where the answer is sound, every record is named
pub sound_all_named : (s : List ℕ) (c d : Counts) (own : ℕ) (xs : List ℕ) → first_unnamed s c own xs (Ok c) ≡ Ok d → AllNamed s c own xs × (c ≡ d)
unfolding first_unnamed
sound_all_named s c d own [] e = (tt, cc)
sound_all_named s c d own (at ∷ xs) e =
    named_step s c d own at xs (sound_all_named s c d (tallied own (kind_at s at) 4) xs) (link_ok s c own at) refl e
