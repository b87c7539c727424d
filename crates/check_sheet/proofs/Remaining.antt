-- What the second pass has before it: the records from an offset on. Question 7 is asked of the references and cells among them alone.
-- Assumes nothing.
use mathlib.Core.Path.{◌≡◌, refl, sym, ap, subst, ◌∙◌}
use Prim.Native.Nat.{ℕ, ◌+◌, ◌-◌, ◌≤◌, ◌<◌}
use native.Mathlib.Omega.{arith}
use mathlib.Core.List.{List, [], ◌∷◌}
use mathlib.Core.Bool.{Bool, true, false, cond}
use lib.ListN.{length}
use lib.Dec.{eqb}
use borrow.Author.Tests.{ne_eqb}
use Rattle.walk.specs.Offsets.{max_sheet_bytes, length_at, kind_at, offsets_from, offsets}
use Rattle.walk.proofs.Offsets.{by_order, offsets_within, offsets_more, offsets_end}
use Rattle.walk.specs.Find.{of_kind_in, count_in}
use Rattle.walk.proofs.Finding.{count_step}
use Rattle.walk.specs.Every.{All}
use Rattle.walk.proofs.Every.{all_step}
use Rattle.check_record.specs.Record.{Right}
use Rattle.check_record.proofs.Facts.Lengths.{shape_known}
use Rattle.check_sheet.specs.declared.Counts.{Counts}
use Rattle.std.specs.Prelude.{Ok, Err}
use Rattle.check_sheet.specs.declared.SheetError.TheVariants.{NamesMissing}
use Rattle.check_sheet.specs.Count.{counts_of, tallied}
use Rattle.check_sheet.specs.Links.{link_ok}
use Rattle.check_sheet.specs.Check.{first_unnamed}
use Rattle.check_sheet.specs.Valid.{AllNamed}
use Rattle.check_sheet.proofs.Passes.{first_unnamed_pass, first_unnamed_stop, all_named_later}
use Rattle.check_sheet.proofs.Passed.{tallied_next}

-- ---- Of how many records question 7 is asked

-- how many references and cells there are among some records
abbrev pub asked_in : List ℕ → List ℕ → ℕ
asked_in s xs = count_in s 4 xs + count_in s 5 xs

-- a reference or a cell is one of them
one_asked : (kind : ℕ) → 3 < kind → kind ≤ 5 → cond (eqb kind 4) 1 0 + cond (eqb kind 5) 1 0 ≡ 1
one_asked kind h g =
    by_order 5 kind
    (λ m. let e : kind ≡ 5 = omega arith in rw e refl)
    (λ m. let e : kind ≡ 4 = omega arith in rw e refl)

none_counted : (b : Bool) → ◌≡◌ {A = ℕ} (cond b 1 0) 0 → b ≡ false
none_counted true e = absurd (omega arith)
none_counted false e = refl

module _ (s : List ℕ) where
  -- before the last of them there are bytes
  asked_within : (at : ℕ) → 0 < asked_in s (offsets_from s at) → at < length s
  unfolding of_kind_in
  asked_within at h =
      by_order (length s) at
      (λ past. let none = ap (asked_in s) (offsets_end s at past) in absurd (omega arith))
      (λ within. within)

  module _ (c : Counts) where
    -- a record of another kind names nothing
    other_ok : (own at : ℕ) → eqb (kind_at s at) 4 ≡ false → eqb (kind_at s at) 5 ≡ false → link_ok s c own at ≡ true
    unfolding link_ok
    other_ok own at e f = rw (e, f)

    none_asked_named : (xs : List ℕ) (own : ℕ) → asked_in s xs ≡ 0 → AllNamed s c own xs
    none_asked_named [] own e = tt
    none_asked_named (at ∷ xs) own e =
        let references = count_step s 4 at xs in
        let cells = count_step s 5 at xs in
        (other_ok own at (none_counted _ (omega arith)) (none_counted _ (omega arith)), none_asked_named xs _ (omega arith))

-- ---- The records from an offset on

-- They are right, no more references were passed than bytes, `left` references and cells are among them, and the first of them
-- that names what is missing is the first of all.
pub record Remaining (s : List ℕ) (c : Counts) (at own left : ℕ) : Type 0 where
  pub right : All (Right s) (offsets_from s at)
  pub most : own ≤ at
  pub asked : left ≡ asked_in s (offsets_from s at)
  pub same : first_unnamed s c own (offsets_from s at) (Ok c) ≡ first_unnamed s c 0 (offsets s) (Ok c)

pub all_remain : (s : List ℕ) (c : Counts) → length s ≤ max_sheet_bytes → All (Right s) (offsets s) → c ≡ counts_of s → Remaining s c 0 0 (c.references + c.cells)
unfolding counts_of
all_remain s c short h e =
    let all = offsets_within s short in
    record {
      right = subst (All (Right s)) all h;
      most = omega arith;
      asked = ap (λ (x : Counts). x.references + x.cells) e ∙ ap (asked_in s) all;
      same = ap (λ (xs : List ℕ). first_unnamed s c 0 xs (Ok c)) (sym all);
    }

module _ (s : List ℕ) (c : Counts) (at own left : ℕ) (r : Remaining s c at own left) where
  -- where none is left the sheet is sound
  pub none_remain : left ≤ 0 → Ok c ≡ first_unnamed s c 0 (offsets s) (Ok c)
  none_remain h =
      let none : asked_in s (offsets_from s at) ≡ 0 = omega (arith, r.asked) in
      sym (all_named_later s c own (offsets_from s at) (Ok c) (none_asked_named s c (offsets_from s at) own none)) ∙ r.same

  module _ (some : 0 < left) where
    remains_within : at < length s
    remains_within = asked_within s at (omega (arith, r.asked))

    step : Right s at × All (Right s) (offsets_from s (at + length_at s at))
    step = all_step s (Right s) at (λ here. here.whole.head) r.right remains_within

    -- the record at hand is right
    pub remains_right : Right s at
    remains_right = step.0

    here : offsets_from s at ≡ at ∷ offsets_from s (at + length_at s at)
    here = offsets_more s at remains_within remains_right.whole.head

    asked_here : left ≡ cond (eqb (kind_at s at) 4) 1 0 + cond (eqb (kind_at s at) 5) 1 0 + asked_in s (offsets_from s (at + length_at s at))
    asked_here =
        omega (
          arith,
          r.asked,
          ap (asked_in s) here,
          count_step s 4 at (offsets_from s (at + length_at s at)),
          count_step s 5 at (offsets_from s (at + length_at s at)),
        )

    passed : link_ok s c own at ≡ true
        → first_unnamed s c (tallied own (kind_at s at) 4) (offsets_from s (at + length_at s at)) (Ok c) ≡ first_unnamed s c 0 (offsets s) (Ok c)
    passed ok =
        sym (ap (λ (xs : List ℕ). first_unnamed s c own xs (Ok c)) here ∙ first_unnamed_pass s c own at _ (Ok c) ok) ∙ r.same

    -- a reference or a cell that names what exists
    pub asked_passed : 3 < kind_at s at → link_ok s c own at ≡ true → Remaining s c (at + length_at s at) (tallied own (kind_at s at) 4) (left - 1)
    asked_passed h ok =
        record {
          right = step.1;
          most = tallied_next _ _ _ _ _ r.most remains_right.whole.head;
          asked = omega (arith, asked_here, one_asked (kind_at s at) h (shape_known s at remains_right.shape).1);
          same = passed ok;
        }

    -- a record of another kind
    pub other_passed : kind_at s at ≤ 3 → Remaining s c (at + length_at s at) own left
    unfolding tallied
    other_passed h =
        let references = ne_eqb (kind_at s at) 4 (λ e. omega arith) in
        let cells = ne_eqb (kind_at s at) 5 (λ e. omega arith) in
        let ok = other_ok s c own at references cells in
        let number : own + 0 ≡ own = omega arith in
        record {
          right = step.1;
          most = omega (arith, r.most);
          asked = let e = rw (references, cells) at asked_here in omega (arith, e);
          same = rw (references, number) at passed ok;
        }

    -- one that names what is missing
    pub asked_refused : link_ok s c own at ≡ false → Err (NamesMissing at) ≡ first_unnamed s c 0 (offsets s) (Ok c)
    asked_refused no-link =
        sym (ap (λ (xs : List ℕ). first_unnamed s c own xs (Ok c)) here ∙ first_unnamed_stop s c own at _ (Ok c) no-link) ∙ r.same
