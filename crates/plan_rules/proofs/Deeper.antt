-- DEEPER SHEETS: the statements of paper 13, each from a law over the greatest depth that question 10 lets pass.
-- Assumes nothing.
use mathlib.Core.Path.{◌≡◌, refl, sym, ap, subst, ◌∙◌}
use mathlib.Core.Bool.{Bool, true, false, cond}
use mathlib.Core.List.{List}
use Prim.Native.Nat.{ℕ, ◌≤◌}
use native.Mathlib.Nat.{lt_of_not-le}
use native.Mathlib.Omega.{arith}
use lib.ListN.{length}
use lib.Dec.{leb, eqb}
use borrow.Author.Tests.{le-leb, lt-leb}
use Rattle.abstract_sheet.specs.Sheet.{Sheet, sheet_of}
use Rattle.std.specs.Prelude.{Ok, Err}
use Rattle.check_sheet.specs.Check.{Checked, check_sheet}
use Rattle.check_sheet.proofs.Numbered.{numbered}
use Rattle.plan_rules.specs.Limits.{max_depth}
use Rattle.plan_rules.specs.World.{Query}
use Rattle.plan_rules.specs.Scratch.{counts_named, marks_named}
use Rattle.plan_rules.specs.Questions.{view_ok, zoom_ok, depth_ok, has_scratch, query_refusal_up_to}
use Rattle.plan_rules.specs.Outcome.{Outcome, refused, tape_of, delivered, sound_outcome_up_to, checked_outcome_up_to, outcome_up_to}
use Rattle.plan_rules.specs.Deeper.{former_max_depth, FormerAnswersStay, OnlyDeeperIsTooDeep, DeeperIsTooDeep, DeepIsAnswered, DeepNeedsScratch}
use Rattle.plan_rules.proofs.OutcomeTheorem.{sheet_sound, query_refused, query_passed}

-- ---- a depth that two greatest depths let pass has one outcome

module _ (a b : ℕ) (q : Query) (o k m : List ℕ) (below-a : q.depth ≤ a) (below-b : q.depth ≤ b) where
  same_refusal : (cells : ℕ) → query_refusal_up_to a q.view q.zoom q.depth cells (length k) (length m) ≡ query_refusal_up_to b q.view q.zoom q.depth cells (length k) (length m)
  unfolding query_refusal_up_to depth_ok
  same_refusal cells = rw (le-leb _ _ below-a, le-leb _ _ below-b)

  pub same_sound : (S : Sheet) (cells : ℕ) → sound_outcome_up_to a S cells q o k m ≡ sound_outcome_up_to b S cells q o k m
  unfolding sound_outcome_up_to
  same_sound S cells =
      ap (λ (n : ℕ). cond (eqb n 0) (delivered (tape_of S cells q) (counts_named cells q.depth) (marks_named cells q.depth) o k m) (refused n 0 o k m)) (same_refusal cells)

  same_outcome : (s : List ℕ) → outcome_up_to a s q o k m ≡ outcome_up_to b s q o k m
  unfolding outcome_up_to
  same_outcome s = by (check_sheet s)
    where
      by : (c : Checked) → checked_outcome_up_to a c (sheet_of s) q o k m ≡ checked_outcome_up_to b c (sheet_of s) q o k m
      by (Err e) = refl
      by (Ok counts) = same_sound (sheet_of s) counts.cells

pub former_answers_stay : FormerAnswersStay
former_answers_stay s q o k m h = same_outcome max_depth former_max_depth q o k m (omega (arith, h)) h s

-- ---- number 10 is that of question 10 alone

abbrev Not10 : ℕ → Type 0
Not10 n = n ≡ 10 → ⊥

not_10_if : (b : Bool) (x y : ℕ) → Not10 x → Not10 y → Not10 (cond b x y)
not_10_if true x y p r = p
not_10_if false x y p r = r

outcome_if : (b : Bool) (x y : Outcome) → Not10 x.number → Not10 y.number → Not10 (cond b x y).number
outcome_if true x y p r = p
outcome_if false x y p r = r

module _ (deepest : ℕ) (q : Query) (o k m : List ℕ) (below : q.depth ≤ deepest) where
  refusal_not_10 : (cells : ℕ) → Not10 (query_refusal_up_to deepest q.view q.zoom q.depth cells (length k) (length m))
  unfolding query_refusal_up_to depth_ok
  refusal_not_10 cells =
      subst (λ (b : Bool). Not10 (cond (view_ok q.view) (cond (zoom_ok q.zoom) (cond b (cond (has_scratch cells q.depth (length k) (length m)) 0 11) 10) 9) 8)) (sym (le-leb _ _ below))
      (not_10_if (view_ok q.view) _ 8
      (not_10_if (zoom_ok q.zoom) _ 9
      (not_10_if (has_scratch cells q.depth (length k) (length m)) 0 11 (λ e. omega arith) (λ e. omega arith)) (λ e. omega arith)) (λ e. omega arith))

  sound_not_10 : (S : Sheet) (cells : ℕ) → Not10 (sound_outcome_up_to deepest S cells q o k m).number
  unfolding sound_outcome_up_to delivered
  sound_not_10 S cells =
      outcome_if (eqb (query_refusal_up_to deepest q.view q.zoom q.depth cells (length k) (length m)) 0) _ _
      (outcome_if (leb (length (tape_of S cells q)) (length o)) _ _ (λ e. omega arith) (λ e. omega arith))
      (refusal_not_10 cells)

  not_10 : (s : List ℕ) → Not10 (outcome_up_to deepest s q o k m).number
  unfolding outcome_up_to
  not_10 s = by (check_sheet s)
    where
      by : (c : Checked) → Not10 (checked_outcome_up_to deepest c (sheet_of s) q o k m).number
      by (Err x) = λ ten. omega (arith, (numbered x).most)
      by (Ok counts) = sound_not_10 (sheet_of s) counts.cells

pub only_deeper_is_too_deep : OnlyDeeperIsTooDeep
only_deeper_is_too_deep s q o k m e = lt_of_not-le (λ (below : q.depth ≤ max_depth). not_10 max_depth q o k m below s e)

-- ---- what a call gets that reaches question 10

pub deeper_is_too_deep : (deepest : ℕ) → DeeperIsTooDeep deepest
unfolding query_refusal_up_to depth_ok
deeper_is_too_deep deepest s q o k m counts asked deeper =
    let no : 10 ≡ query_refusal_up_to deepest q.view q.zoom q.depth counts.cells (length k) (length m) = rw (asked.view, asked.zoom, lt-leb _ _ deeper) in
    sheet_sound deepest s q o k m counts asked.sound ∙ query_refused deepest (sheet_of s) counts.cells q o k m no (λ z. omega arith)

pub deep_is_answered : DeepIsAnswered
unfolding query_refusal_up_to depth_ok
deep_is_answered s q o k m counts asked within lent =
    let yes : query_refusal_up_to max_depth q.view q.zoom q.depth counts.cells (length k) (length m) ≡ 0 = rw (asked.view, asked.zoom, le-leb _ _ within, lent) in
    sheet_sound max_depth s q o k m counts asked.sound ∙ query_passed max_depth (sheet_of s) counts.cells q o k m yes

pub deep_needs_scratch : DeepNeedsScratch
unfolding query_refusal_up_to depth_ok
deep_needs_scratch s q o k m counts asked within short =
    let no : 11 ≡ query_refusal_up_to max_depth q.view q.zoom q.depth counts.cells (length k) (length m) = rw (asked.view, asked.zoom, le-leb _ _ within, short) in
    sheet_sound max_depth s q o k m counts asked.sound ∙ query_refused max_depth (sheet_of s) counts.cells q o k m no (λ z. omega arith)
