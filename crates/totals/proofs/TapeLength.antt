-- NO TAPE IS LONGER than 5,360,062 bytes: an object is listed where the object limit is not met, a proxy where the list is not full, and the totals once.
-- Assumes nothing.
use mathlib.Core.Path.{◌≡◌, refl, ap, ◌∙◌}
use mathlib.Core.Bool.{Bool, true, false, not, cond, ◌||◌}
use mathlib.Core.List.{List, [], ◌∷◌}
use Prim.Native.Nat.{ℕ, ◌+◌, ◌*◌, ◌≤◌, ◌<◌}
use native.Mathlib.Omega.{arith}
use lib.ListN.{length, replicate}
use lib.Dec.{leb, eqb, ltb→lt}
use lib.Dec.{T as Yes}
use borrow.Author.Tests.{le-leb, leb-false}
use Rattle.abstract_sheet.specs.Sheet.{Sheet, sheet_of}
use Rattle.std.specs.Prelude.{Ok, Err}
use Rattle.check_sheet.specs.Check.{Checked, check_sheet}
use Rattle.plan_rules.specs.declared.ScenePlan.{ScenePlan}
use Rattle.plan_rules.specs.Limits.{max_depth, max_scene_objects, max_text_instances, max_load_proxies}
use Rattle.plan_rules.specs.Event.{Event, batch, text, point, proxy, dropped_proxy, skipped_member, skipped_batch, culled_reference, culled_batch, detail_cell, totals, ◌⊞◌, empty_plan, amounts, after}
use Rattle.plan_rules.specs.World.{Query, detail_budget_exhausted, world}
use Rattle.plan_rules.specs.Scratch.{counts_named, marks_named}
use Rattle.plan_rules.specs.Tape.{no_tag, note, tape}
use Rattle.plan_rules.specs.Questions.{query_refusal}
use Rattle.plan_rules.specs.Outcome.{Outcome, fresh_plan, tape_of, delivered, sound_outcome_up_to, sound_outcome, checked_outcome_up_to, outcome_up_to}
use Rattle.plan_rules.proofs.Simulation.Premises.{Room, is_totals}
use Rattle.plan_rules.proofs.Invariant.{root_kept}
use Rattle.plan_rules.proofs.TapeTheorem.{longer}
use Rattle.plan_rules.proofs.OutcomeTheorem.{sheet_sound, query_passed}
use Rattle.totals.specs.TapeLength.{most_tape, TapeAtMost, EnoughOutput}
use Rattle.totals.proofs.Proxies.{one_more, at_most_counted, visited, totals_last}

-- ---- what every event but the totals keeps

-- a budget that is not exhausted leaves room for an object
objects_left : (q : Query) (s : ScenePlan) → Yes (not (detail_budget_exhausted q s)) → s.detail_objects < q.object_limit
unfolding detail_budget_exhausted
objects_left q s h = by (leb q.object_limit s.detail_objects) refl h
  where
    by : (b : Bool) → leb q.object_limit s.detail_objects ≡ b → Yes (not (b || leb max_text_instances s.texts || leb max_load_proxies s.load_proxies)) → s.detail_objects < q.object_limit
    by true e h = absurd h
    by false e h = leb-false _ _ e

module _ {P : Type 0} (q : Query) (few : q.object_limit ≤ max_scene_objects) where
  -- so many objects and proxies are listed, and no more than their longest records are written
  pub record Bounded (s : ScenePlan) (l : List (P × Event)) : Type 0 where
    pub objects : s.detail_objects ≤ q.object_limit
    pub proxies : s.load_proxies ≤ max_load_proxies
    pub bytes : length (tape l) ≤ 58 * s.detail_objects + 42 * s.load_proxies

  object_listed : (t : P) (e : Event) (s : ScenePlan) (l : List (P × Event)) → (amounts e).detail_objects ≡ 1 → (amounts e).load_proxies ≡ 0 → (amounts e).tape_end ≤ 58
      → Yes (not (detail_budget_exhausted q s)) → Bounded s l → Bounded (after e s) ((t, e) ∷ l)
  unfolding after
  object_listed t e s l one none short room h =
      let below = objects_left q s room in
      let more : s.detail_objects ⊞ (amounts e).detail_objects ≡ 1 + s.detail_objects = ap (λ (n : ℕ). s.detail_objects ⊞ n) one ∙ one_more s.detail_objects (omega arith) in
      let same : s.load_proxies ⊞ (amounts e).load_proxies ≡ s.load_proxies = ap (λ (n : ℕ). s.load_proxies ⊞ n) none ∙ unfold ◌⊞◌ in refl in
      record { objects = omega (arith, more); proxies = omega (arith, same, h.proxies); bytes = omega (arith, more, same, longer e l, h.bytes) }

  unlisted : (t : P) (e : Event) (s : ScenePlan) (l : List (P × Event)) → (amounts e).detail_objects ≡ 0 → (amounts e).load_proxies ≡ 0 → (amounts e).tape_end ≡ 0 → Bounded s l → Bounded (after e s) ((t, e) ∷ l)
  unfolding after
  unlisted t e s l no-object no-proxy no_byte h =
      let same-objects : s.detail_objects ⊞ (amounts e).detail_objects ≡ s.detail_objects = ap (λ (n : ℕ). s.detail_objects ⊞ n) no-object ∙ unfold ◌⊞◌ in refl in
      let same-proxies : s.load_proxies ⊞ (amounts e).load_proxies ≡ s.load_proxies = ap (λ (n : ℕ). s.load_proxies ⊞ n) no-proxy ∙ unfold ◌⊞◌ in refl in
      record {
        objects = omega (arith, same-objects, h.objects);
        proxies = omega (arith, same-proxies, h.proxies);
        bytes = omega (arith, same-objects, same-proxies, no_byte, longer e l, h.bytes);
      }

  keeps : (t : P) (e : Event) → is_totals e ≡ false → (s : ScenePlan) → Room q s e → (l : List (P × Event)) → Bounded s l → Bounded (after e s) (note t e s.tape_end l)
  keeps t (batch n p) ok s room l h = object_listed t (batch n p) s l refl refl (omega arith) room h
  keeps t (text n v) ok s room l h = object_listed t (text n v) s l refl refl (omega arith) room h
  keeps t (point a k v) ok s room l h = object_listed t (point a k v) s l refl refl (omega arith) room h
  keeps t (proxy y a b) ok s room l h =
      let below = ltb→lt s.load_proxies max_load_proxies room in
      let more = one_more s.load_proxies below in
      unfold after in unfold ◌⊞◌ in record { objects = h.objects; proxies = omega (arith, more); bytes = omega (arith, more, longer (proxy y a b) l, h.bytes) }
  keeps t (dropped_proxy y a b) ok s room l h = unlisted t (dropped_proxy y a b) s l refl refl refl h
  keeps t (skipped_member g b) ok s room l h = unlisted t (skipped_member g b) s l refl refl refl h
  keeps t (skipped_batch b) ok s room l h = unlisted t (skipped_batch b) s l refl refl refl h
  keeps t culled_reference ok s room l h = unlisted t culled_reference s l refl refl refl h
  keeps t culled_batch ok s room l h = unlisted t culled_batch s l refl refl refl h
  keeps t detail_cell ok s room l h = unlisted t detail_cell s l refl refl refl h
  keeps t (totals u) ok s room l h = let no : ◌≡◌ {A = ℕ} 1 0 = ap (λ (b : Bool). cond b 1 0) ok in absurd (omega arith)

-- ---- of a plan

tape_at_most_fresh : (S : Sheet) (cells : ℕ) (q : Query) → q.object_limit ≤ max_scene_objects → length (tape_of S cells q) ≤ most_tape
unfolding tape_of fresh_plan
tape_at_most_fresh S cells q few =
    let k : List ℕ = replicate (counts_named cells q.depth) 0 in
    let m : List ℕ = replicate (marks_named cells q.depth) 0 in
    let v = visited no_tag S cells q tt k m in
    let h : Bounded q few v.state v.out = root_kept no_tag note S cells q (Bounded q few) (keeps q few) tt (world empty_plan [] k m) (unfold empty_plan in record { objects = omega arith; proxies = omega arith; bytes = omega arith }) in
    let last = ap (λ (l : List (Unit {0} × Event)). length (tape l)) (totals_last no_tag S cells q tt k m) in
    omega (arith, last, longer (totals v.state) v.out, h.objects, h.proxies, h.bytes, few)

-- ---- of a call

-- the length that an outcome tells
abbrev Short : Outcome → Type 0
Short c = c.tape_length ≤ most_tape

short_if : (b : Bool) (x y : Outcome) → Short x → Short y → Short (cond b x y)
short_if true x y p r = p
short_if false x y p r = r

module _ (S : Sheet) (cells : ℕ) (q : Query) (o k m : List ℕ) (few : q.object_limit ≤ max_scene_objects) where
  abbrev t : List ℕ
  t = tape_of S cells q

  at_most : length t ≤ most_tape
  at_most = tape_at_most_fresh S cells q few

  sound_short : Short (sound_outcome S cells q o k m)
  unfolding sound_outcome_up_to delivered
  sound_short =
      short_if (eqb (query_refusal q.view q.zoom q.depth cells (length k) (length m)) 0) _ _
      (short_if (leb (length t) (length o)) _ _ at_most (omega (arith, at_most, at_most_counted _ (length t) refl)))
      (omega arith)

  sound_enough : most_tape ≤ length o → query_refusal q.view q.zoom q.depth cells (length k) (length m) ≡ 0 → (sound_outcome S cells q o k m).number ≡ 0
  unfolding delivered
  sound_enough enough passed = ap (λ (c : Outcome). c.number) (query_passed max_depth S cells q o k m passed) ∙ rw (le-leb (length t) (length o) (omega (arith, at_most)))

-- THE LONGEST TAPE
pub tape_at_most : TapeAtMost
unfolding outcome_up_to
tape_at_most s q o k m few = by (check_sheet s)
  where
    by : (c : Checked) → Short (checked_outcome_up_to max_depth c (sheet_of s) q o k m)
    by (Err e) = omega arith
    by (Ok c) = sound_short (sheet_of s) c.cells q o k m few

pub enough_output : EnoughOutput
enough_output s counts q o k m few enough sound passed =
    ap (λ (c : Outcome). c.number) (sheet_sound max_depth s q o k m counts sound) ∙ sound_enough (sheet_of s) counts.cells q o k m few enough passed
