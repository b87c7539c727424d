-- Pieces of a line that are written one after the other.
-- Assumes nothing.
use mathlib.Core.Path.{◌≡◌, refl, sym, ap, ap₂, ◌∙◌}
use mathlib.Core.List.{List, [], ◌∷◌, ◌++◌, append-nil, append_assoc}
use Prim.Native.Nat.{ℕ, zero, suc, ◌+◌, ◌*◌, ◌≤◌}
use native.Mathlib.Numerals.{add-one}
use native.Mathlib.Omega.{arith}
use lib.ListN.{length, take, drop, set, length-append, length-set}
use lib.Seq.{sets, sets-eq, take_all, length-sets}
use borrow.Rule.Slice.PartMut.{put_mid}
use Rattle.std.proofs.lemmas.Slice.{put_mid-paste}
use Rattle.fields.specs.Field.{uint_at}
use Rattle.fields.proofs.Writing.{sets-append}
use Rattle.plan_text.specs.declared.piece.Line.{Line}
use Rattle.plan_text.specs.Text.{digits, each_field}
use Rattle.plan_text.specs.Written.{Written, Puts}
use Rattle.plan_text.proofs.Digits.{length_digits}

-- ---- one piece and then another

infixl 20 ◌⨾◌
pub ◌⨾◌ : {m n : ℕ} {a b c : Line} {xs ys : List ℕ} → Puts m a xs b → Puts n b ys c → Puts (m + n) a (xs ++ ys) c
◌⨾◌ {m} {n} {a} {b} {c} {xs} {ys} first more =
    let w = first.written in
    let v = more.written in
    record {
      same_text = more.same_text ∙ first.same_text;
      same_length = more.same_length ∙ first.same_length;
      written = record {
        left = v.left ∙ ap₂ (λ (l : List ℕ) (k : ℕ). sets l k ys) w.left w.ends ∙ sym (sets-append a.text.now xs ys a.end);
        ends = omega (arith, w.ends, v.ends, length-append xs ys);
        within = omega (arith, w.within, v.within);
      };
    }

-- more room than is asked for
pub roomy : {m n : ℕ} {a b : Line} {xs : List ℕ} → m ≤ n → Puts m a xs b → Puts n a xs b
roomy h p = record { same_text = p.same_text; same_length = p.same_length; written = record { left = p.written.left; ends = p.written.ends; within = omega (arith, p.written.within) } }

-- a piece of the number that was read
pub said : (piece : ℕ → List ℕ) {n v w : ℕ} {a b : Line} → v ≡ w → Puts n a (piece v) b → Puts n a (piece w) b
said piece p put = rw p at put

-- nothing is written
pub nothing : (n : ℕ) (a : Line) → Puts n a [] a
nothing n a = record { same_text = refl; same_length = refl; written = record { left = refl; ends = omega arith; within = omega arith } }

-- what was written into the text that the line was lent
pub puts : {n : ℕ} {a b : Line} {xs : List ℕ} → b.text.ghost_name ≡ a.text.ghost_name → Written n a.text.now a.end xs b.text.now b.end → Puts n a xs b
puts {n} {a} {b} {xs} same written = record { same_text = same; same_length = ap length written.left ∙ length-sets a.text.now a.end xs; written = written }

-- ---- bytes that were put into a part of the text

pub placed : {d v w : List ℕ} {at k : ℕ} → v ≡ w → length w ≡ k → at + k ≤ length d → Written k d at w (put_mid at k d v) (at + k)
placed {d} {v} {w} {at} {k} same long fits =
    let p : put_mid at k d v ≡ take at d ++ take k w ++ drop (at + k) d = put_mid-paste at k d v w k same refl (sym long) in
    record {
      left = p ∙ rw (← long) (ap (λ (l : List ℕ). take at d ++ l ++ drop (at + length w) d) (take_all (length w) w (omega arith)) ∙ sym (sets-eq w d at (omega (arith, long))));
      ends = rw long;
      within = omega arith;
    }

-- a blank, and so many digits behind it
pub digits_placed : {d v : List ℕ} {at : ℕ} (radix size n : ℕ) → v ≡ digits radix size n → at + 1 + size ≤ length d → Written (1 + size) d at (32 ∷ digits radix size n) (put_mid (at + 1) size (set d at 32) v) (at + 1 + size)
digits_placed {d} {v} {at} radix size n same fits =
    let w = placed {d = set d at 32} {at = at + 1} same (length_digits radix size n) (omega (arith, length-set {A = ℕ})) in
    record {
      left = w.left ∙ ap (λ (k : ℕ). sets (set d at 32) k (digits radix size n)) (add-one at);
      ends = omega (arith, w.ends);
      within = omega arith;
    }

-- ---- fields of 8 bytes

module _ (piece : ℕ → List ℕ) (s : List ℕ) where
  field_more : (i at : ℕ) → each_field piece (suc i) s at ≡ each_field piece i s at ++ piece (uint_at 8 s (at + 8 * i))
  unfolding each_field
  field_more zero at = let e : at + 8 * 0 ≡ at = omega arith in rw e (append-nil (piece (uint_at 8 s at)))
  field_more (suc i) at =
      let e : at + 8 + 8 * i ≡ at + 8 * suc i = omega arith in
      ap (λ (l : List ℕ). piece (uint_at 8 s at) ++ l) (field_more i (at + 8))
      ∙ sym (append_assoc (piece (uint_at 8 s at)) (each_field piece i s (at + 8)) (piece (uint_at 8 s (at + 8 + 8 * i))))
      ∙ ap (λ (k : ℕ). (piece (uint_at 8 s at) ++ each_field piece i s (at + 8)) ++ piece (uint_at 8 s k)) e

  -- a loop's turn
  pub field_written : (n i from : ℕ) {m : ℕ} {a b c : Line} {v : ℕ} → Puts m a (each_field piece i s from) b → v ≡ uint_at 8 s (from + 8 * i) → Puts n b (piece v) c → Puts (m + n) a (each_field piece (i + 1) s from) c
  field_written n i from {m} {a} {b} {c} before p now = rw (add-one, field_more i from, ← p) (before ⨾ now)
