-- The reply to an input, by code path: a plan, a refusal, no query, or too long.
-- Assumes nothing.
use mathlib.Core.Path.{◌≡◌, refl, sym, ap, subst, ◌∙◌}
use mathlib.Core.List.{List}
use Prim.Native.Nat.{ℕ, ◌≤◌}
use native.Mathlib.Omega.{arith}
use lib.ListN.{length, take, drop}
use borrow.Author.Tests.{ne_eqb}
use borrow.Rule.Slice.Mut.{set_vals}
use Rattle.std.specs.Prelude.{Result, Ok, Err}
use Rattle.streams.specs.declared.input.ReadError.{ReadError}
use Rattle.plan_query.specs.declared.QueryRecord.{QueryRecord}
use Rattle.plan_query.specs.declared.QueryError.{QueryError}
use Rattle.plan_query.specs.Query.{read_query}
use Rattle.open_sheet.specs.Opening.{opening_of}
use Rattle.plan_rules.specs.declared.refusal.PlanError.{PlanError}
use Rattle.plan_rules.specs.Limits.{max_scene_objects}
use Rattle.plan_rules.specs.World.{query_of}
use Rattle.plan_rules.specs.Outcome.{Answer, Outcome, error_number, error_offset, outcome, outcome_of}
use Rattle.planner.proofs.Refusals.{refusal_positive}
use Rattle.plan_answer.specs.declared.lent.Lent.{Lent}
use Rattle.plan_answer.specs.declared.no_plan.NoPlan.{NoPlan}
use Rattle.plan_answer.specs.declared.no_plan.NoPlan.TheVariants as no_plan
use Rattle.plan_answer.specs.NoPlan.{without_query, without_input}
use Rattle.plan_answer.specs.Text.{outcome_text, outcome_end, line_from}
use Rattle.plan_answer.specs.Reply.{Reply, KeepsLengths, Replies, reply, reply_of_outcome, reply_of_query, reply_of_first, reply_of, reply_of_input}
use Rattle.plan_answer.proofs.Outcomes.{Told, told}

-- ---- a plan, or a refusal: `call` and `opened` are the contract of `plan_opened`, and `is` what the match found

module _ (s : List ℕ) (q : QueryRecord) (f h o k m : List ℕ) (a : Answer) {f' o' k' m' : List ℕ} (opened : f' ≡ (opening_of (drop q.sheet s) f).finder)
    (call : outcome a o' k' m' ≡ outcome_of (drop q.sheet s) (query_of q.options (take q.hidden h) max_scene_objects) o k m) where
  abbrev the_told : Told (outcome_of (drop q.sheet s) (query_of q.options (take q.hidden h) max_scene_objects) o k m)
  the_told = told (drop q.sheet s) (query_of q.options (take q.hidden h) max_scene_objects) o k m

  module _ {n : ℕ} (is : a ≡ Ok n) where
    planned_call : outcome (Ok n) o' k' m' ≡ outcome_of (drop q.sheet s) (query_of q.options (take q.hidden h) max_scene_objects) o k m
    planned_call = rw is at call

    pub tape_reply : reply (Ok n) f' h o' k' m' ≡ reply_of_query s q f h o k m
    unfolding reply_of_query outcome_text outcome_end
    tape_reply = λ i. reply_of_outcome (planned_call i) (opened i) h

    pub tape_within : n ≤ length o'
    tape_within =
        omega (
          arith,
          ap (λ (c : Outcome). c.tape_length) planned_call,
          ap (λ (c : Outcome). length c.out) planned_call,
          the_told.within (sym (ap (λ (c : Outcome). c.number) planned_call)),
        )

  pub refusal_reply : (x : PlanError) {n at : ℕ} → a ≡ Err x → n ≡ error_number x → at ≡ error_offset x → reply (Err (no_plan.Refused n at)) f' h o' k' m' ≡ reply_of_query s q f h o k m
  unfolding reply_of_query outcome_text outcome_end line_from
  refusal_reply x is number offset =
      let refused_call : outcome (Err x) o' k' m' ≡ outcome_of (drop q.sheet s) (query_of q.options (take q.hidden h) max_scene_objects) o k m = rw is at call in
      let e : reply_of_outcome (outcome (Err x) o' k' m') f' h ≡ reply_of_query s q f h o k m = λ i. reply_of_outcome (refused_call i) (opened i) h in
      rw (number, offset) (rw (ne_eqb (error_number x) 0 (λ none. omega (arith, refusal_positive x))) at e)

-- ---- by what the input begins with: `read` is the contract of `read_query`

pub first_reply : (s f h o k m : List ℕ) {r : Result QueryRecord QueryError} {h' : List ℕ} {x : Reply} → ◌≡◌ {A = Result QueryRecord QueryError × List ℕ} (r, h') (read_query s h) → x ≡ reply_of_first s (r, h') f o k m → x ≡ reply_of s f h o k m
unfolding reply_of
first_reply s f h o k m read p = p ∙ ap (λ (r : Result QueryRecord QueryError × List ℕ). reply_of_first s r f o k m) read

pub query_reply : (error : QueryError) (s f h o k m : List ℕ) {h' : List ℕ} → reply (Err (without_query error)) f h' o k m ≡ reply_of_first s (Err error, h') f o k m
unfolding line_from
query_reply error s f h o k m = refl

-- ---- an input that could not be read to its end

pub input_reply : (error : ReadError) (b f h o k m : List ℕ) → reply (Err (without_input error)) f h o k m ≡ reply_of_input b (Err error) f h o k m
unfolding line_from
input_reply error b f h o k m = refl

-- ---- over the lent places

module _ {definition : List ℕ → List ℕ → List ℕ → List ℕ → List ℕ → Reply} {r : Result ℕ NoPlan} where
  -- what was written into them; places that were taken out are those that were lent
  pub left_in : {taken before : Lent} {f h o k m : List ℕ} → taken ≡ before
      → (length f ≡ length taken.finder.now) × (length h ≡ length taken.hidden.now) × (length o ≡ length taken.tape.now) × (length k ≡ length taken.counts.now) × (length m ≡ length taken.marks.now)
      → reply r f h o k m ≡ definition taken.finder.now taken.hidden.now taken.tape.now taken.counts.now taken.marks.now
      → Replies definition r before (record { finder = set_vals f taken.finder; hidden = set_vals h taken.hidden; tape = set_vals o taken.tape; counts = set_vals k taken.counts; marks = set_vals m taken.marks })
  left_in {taken} {before} {f} {h} {o} {k} {m} same lengths left =
      subst
      (λ (x : Lent). Replies definition r x (record { finder = set_vals f taken.finder; hidden = set_vals h taken.hidden; tape = set_vals o taken.tape; counts = set_vals k taken.counts; marks = set_vals m taken.marks }))
      same
      (record { same_finder = refl; same_hidden = refl; same_tape = refl; same_counts = refl; same_marks = refl; lengths = lengths; left = left })
