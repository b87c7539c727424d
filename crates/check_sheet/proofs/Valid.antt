-- The answer is sound just where the sheet is valid.
-- Assumes nothing.
use mathlib.Core.Path.{◌≡◌, refl, sym, subst}
use Prim.Native.Nat.{ℕ}
use native.Mathlib.Omega.{arith}
use mathlib.Core.List.{List}
use mathlib.Core.Bool.{Bool, true, false, cond}
use borrow.Author.Tests.{leb-true, le-leb}
use Rattle.walk.specs.Offsets.{offsets_from, offsets}
use Rattle.walk.specs.Every.{All}
use Rattle.walk.proofs.Offsets.{offsets_within}
use Rattle.check_record.specs.Record.{Right}
use Rattle.check_sheet.specs.declared.Counts.{Counts}
use Rattle.check_sheet.specs.declared.SheetError.{SheetError}
use Rattle.check_sheet.specs.Check.{Checked}
use Rattle.std.specs.Prelude.{Ok, Err}
use Rattle.check_sheet.specs.Count.{counts_of}
use Rattle.check_sheet.specs.Check.{check_sheet}
use Rattle.check_sheet.proofs.Passes.{all_right_later, sound_all_right, all_named_later, sound_all_named}
use Rattle.check_sheet.specs.Valid.{Valid}

pub valid_sound : (s : List ℕ) → Valid s → check_sheet s ≡ Ok (counts_of s)
unfolding check_sheet
valid_sound s v =
    rw (le-leb _ _ v.short, all_right_later s (offsets s) _ v.records, le-leb _ _ v.few_cells)
    (all_named_later s (counts_of s) 0 (offsets s) _ v.named)

-- the records of a valid sheet are right, from its start on
pub valid_from_start : (s : List ℕ) → Valid s → All (Right s) (offsets_from s 0)
valid_from_start s v = subst (All (Right s)) (offsets_within s v.short) v.records

-- a test that refuses where it fails was passed where the answer is sound
passed : (b : Bool) (x : Checked) (y : SheetError) (c : Counts) → cond b x (Err y) ≡ Ok c → (b ≡ true) × (x ≡ Ok c)
passed true x y c e = (refl, e)
passed false x y c e = let z : ◌≡◌ {A = ℕ} 0 1 = cc in absurd (omega arith)

sound : (s : List ℕ) (c : Counts) → check_sheet s ≡ Ok c → Valid s × (c ≡ counts_of s)
unfolding check_sheet
sound s c e =
    let sized = passed _ _ _ c e in
    let checked = sound_all_right s (offsets s) _ c sized.1 in
    let few = passed _ _ _ c checked.1 in
    let linked = sound_all_named s (counts_of s) c 0 (offsets s) few.1 in
    (record { short = leb-true _ _ sized.0; records = checked.0; few_cells = leb-true _ _ few.0; named = linked.0 }, sym linked.1)

-- a sound answer gives a valid sheet, and the counts of each kind
pub sound_valid : (s : List ℕ) (c : Counts) → check_sheet s ≡ Ok c → Valid s
sound_valid s c e = (sound s c e).0

pub sound_counts : (s : List ℕ) (c : Counts) → check_sheet s ≡ Ok c → c ≡ counts_of s
sound_counts s c e = (sound s c e).1
