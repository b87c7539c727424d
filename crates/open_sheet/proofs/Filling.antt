-- Filling a list with the offsets of the records, one by one: the places that no record to come has are as they shall be.
-- Assumes nothing.
use mathlib.Core.Path.{◌≡◌, refl, sym, subst, ◌∙◌}
use mathlib.Core.List.{List, [], ◌∷◌, ◌++◌}
use Prim.Native.Nat.{ℕ, ◌+◌, ◌-◌, ◌≤◌, ◌<◌}
use native.Mathlib.Decide.{ℕ_discrete}
use native.Mathlib.Omega.{arith}
use lib.ListN.{length, get_or, set, drop, length-set, length-drop, length-append, get_or-append}
use lib.Seq.{get_or-set_same, get_or-set_other, get_or-append-add, get_or-drop, ext_get_or}
use Rattle.walk.specs.Offsets.{kind_at, offsets}
use Rattle.check_sheet.specs.Count.{counts_of}
use Rattle.finder.specs.Finder.{finder_of, starts_of}
use Rattle.finder.proofs.ByKind.{Known}
use Rattle.finder.proofs.Running.{advance, Running, Settled, running_start, settled_start, running_here, running_next, settled_before, settled_end}

-- ---- A list with another at its front

abbrev pub fronted : List ℕ → List ℕ → List ℕ
fronted l f = l ++ drop (length l) f

past_the_front : (l f : List ℕ) (i : ℕ) → length l ≤ i → get_or f i 0 ≡ get_or (fronted l f) i 0
past_the_front l f i h =
    let q : length l + (i - length l) ≡ i = omega arith in
    subst (λ (j : ℕ). get_or f j 0 ≡ get_or (fronted l f) j 0) q
    (sym (get_or-append-add l (drop (length l) f) (i - length l) 0 ∙ get_or-drop (length l) f (i - length l) 0))

length_fronted : (l f : List ℕ) → length l ≤ length f → length (fronted l f) ≡ length f
length_fronted l f h = omega (arith, length-append l (drop (length l) f), length-drop (length l) f)

-- ---- The list f, lent as f₀, while the records xs are left and p are the places of the kinds

pub record Fills (s f₀ f p xs : List ℕ) : Type 0 where
  pub running : Running s p xs
  pub long : length f ≡ length f₀
  pub settled : (i : ℕ) → Settled s p xs i → get_or f i 0 ≡ get_or (fronted (finder_of s) f₀) i 0

module _ (s f₀ : List ℕ) where
  pub fills_start : Fills s f₀ f₀ (starts_of (counts_of s)) (offsets s)
  fills_start = record { running = running_start s; long = refl; settled = λ i h. past_the_front (finder_of s) f₀ i (settled_start s i h) }

  module _ (room : length (finder_of s) ≤ length f₀) where
    module _ (f p : List ℕ) (at : ℕ) (xs : List ℕ) (known : Known (kind_at s at)) (h : Fills s f₀ f p (at ∷ xs)) where
      here : (get_or p (kind_at s at) 0 < length (finder_of s)) × (get_or (finder_of s) (get_or p (kind_at s at) 0) 0 ≡ at)
      here = running_here s p at xs known h.running

      -- the record's place is within the list
      pub fills_within : get_or p (kind_at s at) 0 < length f
      fills_within = omega (arith, here.0, h.long)

      pub fills_next : Fills s f₀ (set f (get_or p (kind_at s at) 0) at) (advance p (kind_at s at)) xs
      fills_next =
          record {
            running = running_next s p at xs known h.running;
            long = length-set f _ at ∙ h.long;
            settled = λ i after.
                elim (ℕ_discrete i (get_or p (kind_at s at) 0)) [
                  | yes e ↦ subst (λ (j : ℕ). get_or (set f (get_or p (kind_at s at) 0) at) j 0 ≡ get_or (fronted (finder_of s) f₀) j 0) (sym e)
                      (get_or-set_same f _ at 0 fills_within ∙ sym (get_or-append (finder_of s) _ 0 _ here.0 ∙ here.1))
                  | no e ↦ get_or-set_other f _ i at 0 e ∙ h.settled i (settled_before s p at xs known h.running i e after)
                ];
          }

    pub fills_end : (f p : List ℕ) → Fills s f₀ f p [] → f ≡ fronted (finder_of s) f₀
    fills_end f p h = ext_get_or 0 f (fronted (finder_of s) f₀) (h.long ∙ sym (length_fronted (finder_of s) f₀ room)) (λ i below. h.settled i (settled_end s p i))
