-- AN ACCEPTED CALL: its output is the records of the rules' events, and acceptance gives what questions 4, 9 and 10 ask (`accepted_call`). So demand 3 of the rules is demand 3 of a call.
-- Assumes nothing.
use mathlib.Core.Path.{◌≡◌, refl, sym, ap, subst, ◌∙◌}
use mathlib.Core.Bool.{false}
use mathlib.Core.List.{List, [], ◌++◌}
use Prim.Native.Nat.{ℕ, ◌≤◌}
use lib.ListN.{length, drop, replicate}
use lib.Dec.{T as Yes}
use lib.IntN.{pos}
use lib.Ieee.{fin, lt}
use Rattle.abstract_sheet.specs.Sheet.{Sheet, sheet_of}
use Rattle.check_sheet.specs.declared.Counts.{Counts}
use Rattle.check_sheet.specs.Count.{counts_of}
use Rattle.check_sheet.specs.Valid.{Valid}
use Rattle.check_sheet.proofs.Valid.{sound_valid, sound_counts}
use Rattle.check_sheet.proofs.WellFormed.Limits.{reference_limits}
use Rattle.plan_rules.specs.declared.ScenePlan.{ScenePlan}
use Rattle.plan_rules.specs.Limits.{max_depth}
use Rattle.plan_rules.specs.Event.{Event, Step, encode, empty_plan, after}
use Rattle.plan_rules.specs.World.{Query, world}
use Rattle.plan_rules.specs.Scratch.{counts_named, marks_named}
use Rattle.plan_rules.specs.Plan.{plan}
use Rattle.plan_rules.specs.Tape.{no_tag, note, tape}
use Rattle.plan_rules.specs.Outcome.{Outcome, fresh_plan, tape_of, outcome_of}
use Rattle.plan_rules.proofs.Questions.{passed, zoom_positive}
use Rattle.plan_rules.proofs.Accepted.{accepted_outcome}
use Rattle.plan_rules.proofs.Simulation.{the_relation}
use Rattle.plan_rules.proofs.Simulation.Premises.{Room, no_premises}
use Rattle.plan_rules.proofs.Simulation.Visits.{plan_sim}
use Rattle.paths.specs.Square.{FewMembers}
use Rattle.cover.specs.Trace.{enter, events}
use Rattle.cover.specs.Demand3.{Brought, events_of, IsTape, Demand3}
use Rattle.cover.proofs.TagPaths.{Tagged, paths_tape}
use Rattle.cover.proofs.Demand3.{demand_3_of_rules}

-- ---- question 4: columns and rows

valid_few : (s : List ℕ) → Valid s → FewMembers (sheet_of s)
valid_few s valid n r e = let limits = reference_limits s valid n r e in (limits.columns, limits.rows)

-- ---- the tape does not depend on the tag

module _ (S : Sheet) (cells : ℕ) (q : Query) where
  abbrev SameTape : ScenePlan → Tagged → List (Unit {0} × Event) → Type 0
  SameTape s a b = tape a ≡ tape b

  keeps : (ta : List Step) (tb : Unit {0}) (e : Event) → Unit {0} → (s : ScenePlan) → Room q s e → (a : Tagged) (b : List (Unit {0} × Event)) → SameTape s a b → SameTape (after e s) (note ta e s.tape_end a) (note tb e s.tape_end b)
  keeps ta tb e ok s room a b r = ap (λ (t : List ℕ). t ++ encode e) r

  abbrev pub marks : List ℕ
  marks = replicate (marks_named cells q.depth) 0

  abbrev pub counts : List ℕ
  counts = replicate (counts_named cells q.depth) 0

  events_tape : tape (events S cells q counts marks) ≡ tape_of S cells q
  unfolding tape_of fresh_plan
  events_tape =
      paths_tape (plan enter note S cells q [] (world empty_plan [] counts marks)).out
      ∙ the_relation SameTape (plan_sim enter no_tag note note S cells q SameTape (λ d t s p. Unit {0}) (λ t e. Unit {0}) (no_premises enter S q) keeps [] tt (λ u. tt) tt empty_plan [] [] counts marks refl)

-- ---- the call

-- what acceptance gives: what questions 4, 9 and 10 ask, and an output that is the records of the rules' events
pub record Accepted (s : List ℕ) (q : Query) (o k m : List ℕ) : Type 0 where
  pub few : FewMembers (sheet_of s)
  pub zoom : Yes (lt (fin false 0 (pos 0)) q.zoom)
  pub depth : q.depth ≤ max_depth
  pub tape : IsTape s q (outcome_of s q o k m) (events_of s q) o

pub accepted_call : (s : List ℕ) (q : Query) (o k m : List ℕ) → (outcome_of s q o k m).number ≡ 0 → Accepted s q o k m
accepted_call s q o k m e =
    let S = sheet_of s in
    let a = accepted_outcome s q o k m e in
    let c = a.counts in
    let asked = passed _ _ _ _ _ _ a.passed in
    let t = sym (events_tape S c.cells q) ∙ ap (λ (c : Counts). tape (events S c.cells q (counts S c.cells q) (marks S c.cells q))) (sound_counts s c a.sound) in
    record {
      few = valid_few s (sound_valid s c a.sound);
      zoom = subst Yes (sym (zoom_positive q.zoom asked.zoom_ok)) tt;
      depth = asked.depth_within;
      tape = record {
        ran = refl;
        tape_length = ap (λ (x : Outcome). x.tape_length) a.planned ∙ ap length t;
        out = ap (λ (x : Outcome). x.out) a.planned ∙ ap (λ (b : List ℕ). b ++ drop (length b) o) t;
      };
    }

pub demand_3 : Demand3
demand_3 s q o k m square true-boxes view zoom e =
    let a = accepted_call s q o k m e in
    let S = sheet_of s in
    let cells = (counts_of s).cells in
    let brought : Brought q = record { view = view; zoom = record { positive = a.zoom; most = zoom }; depth = a.depth } in
    (events_of s q, a.tape, demand_3_of_rules S square true-boxes a.few q brought cells (counts S cells q) (marks S cells q))
