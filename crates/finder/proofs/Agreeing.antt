-- The check of a list, record by record: the places of the records passed are the same as the finder's.
-- Assumes nothing.
use mathlib.Core.Path.{◌≡◌, sym, subst, ◌∙◌}
use mathlib.Core.Bool.{true, false}
use mathlib.Core.List.{List, [], ◌∷◌}
use Prim.Native.Nat.{ℕ, ◌≤◌, ◌<◌}
use native.Mathlib.Decide.{ℕ_discrete}
use native.Mathlib.Omega.{arith}
use lib.ListN.{length, get_or}
use Rattle.walk.specs.Offsets.{kind_at, offsets}
use Rattle.check_sheet.specs.Count.{counts_of}
use Rattle.finder.specs.Finder.{finder_of, belongs, starts_of}
use Rattle.finder.proofs.Prefix.{Same, places_start, place_refutes}
use Rattle.finder.proofs.ByKind.{Known}
use Rattle.finder.proofs.Running.{advance, Running, Settled, running_start, settled_start, running_here, running_next, settled_before, settled_end}

module _ (s f : List ℕ) where
  -- a list agrees so far: the records xs are left, and p are the places of the kinds
  pub record Agrees (p xs : List ℕ) : Type 0 where
    pub running : Running s p xs
    pub settled : (i : ℕ) → i < length (finder_of s) → Settled s p xs i → Same f (finder_of s) i

  pub agrees_start : Agrees (starts_of (counts_of s)) (offsets s)
  agrees_start = record { running = running_start s; settled = λ i below h. let past = settled_start s i h in absurd (omega arith) }

  module _ (p : List ℕ) (at : ℕ) (xs : List ℕ) (known : Known (kind_at s at)) (h : Agrees p (at ∷ xs)) where
    -- the record's place is the finder's
    here : (get_or p (kind_at s at) 0 < length (finder_of s)) × (get_or (finder_of s) (get_or p (kind_at s at) 0) 0 ≡ at)
    here = running_here s p at xs known h.running

    pub agrees_next : get_or p (kind_at s at) 0 < length f → get_or f (get_or p (kind_at s at) 0) 0 ≡ at → Agrees (advance p (kind_at s at)) xs
    agrees_next within same =
        record {
          running = running_next s p at xs known h.running;
          settled = λ i below after.
              elim (ℕ_discrete i (get_or p (kind_at s at) 0)) [
                | yes e ↦ subst (Same f (finder_of s)) (sym e) (record { within = within; same = same ∙ sym here.1 })
                | no e ↦ h.settled i below (settled_before s p at xs known h.running i e after)
              ];
        }

    -- a place that is missing or has another offset: the list does not belong
    pub missing_place : length f ≤ get_or p (kind_at s at) 0 → belongs f s ≡ false
    unfolding belongs
    missing_place short = place_refutes f (finder_of s) _ here.0 (λ same. absurd (omega (arith, same.within)))

    pub other_offset : (get_or f (get_or p (kind_at s at) 0) 0 ≡ at → ⊥) → belongs f s ≡ false
    unfolding belongs
    other_offset differs = place_refutes f (finder_of s) _ here.0 (λ same. differs (same.same ∙ here.1))

  pub agrees_end : (p : List ℕ) → Agrees p [] → belongs f s ≡ true
  unfolding belongs
  agrees_end p h = places_start f (finder_of s) (λ i below. h.settled i below (settled_end s p i))
