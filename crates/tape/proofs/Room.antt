-- A record is written if it fits: `put_record` by what the test for room says. Assumes nothing.
use mathlib.Core.Path.{◌≡◌, refl, sym, ◌∙◌}
use mathlib.Core.Bool.{Bool, true, false}
use mathlib.Core.List.{List, [], ◌∷◌}
use Prim.Native.Nat.{ℕ, ◌+◌, ◌<◌}
use lib.ListN.{length}
use lib.Seq.{sets}
use lib.Dec.{leb}
use borrow.Author.Tests.{lt-leb, leb-true, leb-false}
use Rattle.fields.specs.Field.{Field, widths, record_bytes}
use Rattle.plan_rules.specs.Tape.{put_record}
use Rattle.plan_rules.proofs.TapeTheorem.{put_fits}

put_not : (o : List ℕ) (at : ℕ) (fs : List Field) → length o < at + widths fs → put_record o at fs ≡ o
unfolding put_record
put_not o at [] h = refl
put_not o at (f ∷ fs) h = rw (lt-leb _ _ h)

module _ (fs : List Field) (o : List ℕ) (at : ℕ) {room : Bool} (tested : room ≡ leb (at + widths fs) (length o)) where
  pub written : {r : List ℕ} → room ≡ true → r ≡ sets o at (record_bytes fs) → r ≡ put_record o at fs
  written h w = w ∙ sym (put_fits o at fs (leb-true _ _ (sym tested ∙ h)))

  pub left_alone : room ≡ false → o ≡ put_record o at fs
  left_alone h = sym (put_not o at fs (leb-false _ _ (sym tested ∙ h)))
