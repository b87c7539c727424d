-- What opening a valid sheet gives: number 13 with a short list, number 0 with enough places; and what number 0 leaves belongs to the sheet.
-- Assumes nothing.
use mathlib.Core.Path.{◌≡◌, sym, ap, subst, ◌∙◌}
use mathlib.Core.Bool.{true}
use mathlib.Core.List.{List}
use Prim.Native.Nat.{ℕ, ◌≤◌}
use native.Mathlib.Omega.{arith}
use lib.ListN.{length}
use Rattle.walk.proofs.Offsets.{by_order}
use Rattle.std.specs.Prelude.{Ok, Err}
use Rattle.check_sheet.specs.Count.{counts_of}
use Rattle.check_sheet.specs.Check.{Checked, check_sheet}
use Rattle.check_sheet.proofs.Numbered.{numbered}
use Rattle.check_sheet.proofs.Valid.{valid_sound}
use Rattle.finder.specs.Finder.{finder_of, starts_with, belongs}
use Rattle.finder.proofs.Prefix.{append_starts}
use Rattle.finder.proofs.Sizes.{places_by_the_bytes}
use Rattle.open_sheet.specs.Opening.{Opening, filled, checked_opening, opening_of}
use Rattle.open_sheet.specs.Statements.{ShortIsRefused, OpenedBelongs, EnoughPlacesOpen}
use Rattle.open_sheet.proofs.Answers.{short, long, opening_by}

pub short_is_refused : ShortIsRefused
short_is_refused s f valid h = opening_by s f (Ok (counts_of s)) (valid_sound s valid) ∙ short (finder_of s) f h

filled_starts : (l f : List ℕ) → (filled l f).number ≡ 0 → starts_with (filled l f).finder l ≡ true
filled_starts l f e =
    by_order (length l) (length f)
    (λ h. subst (λ (o : Opening). starts_with o.finder l ≡ true) (sym (long l f h)) (append_starts l _))
    (λ h. let n = ap (λ (o : Opening). o.number) (short l f h) in absurd (omega arith))

checked_starts : (r : Checked) (l f : List ℕ) → (checked_opening r l f).number ≡ 0 → starts_with (checked_opening r l f).finder l ≡ true
checked_starts (Err x) l f e = absurd (omega (arith, (numbered x).positive))
checked_starts (Ok counts) l f e = filled_starts l f e

pub opened_belongs : OpenedBelongs
unfolding opening_of belongs
opened_belongs s f e = checked_starts (check_sheet s) (finder_of s) f e

pub enough_places_open : EnoughPlacesOpen
enough_places_open s f valid h =
    let room : length (finder_of s) ≤ length f = omega (arith, places_by_the_bytes s valid) in
    ap (λ (o : Opening). o.number) (opening_by s f (Ok (counts_of s)) (valid_sound s valid) ∙ long (finder_of s) f room)
