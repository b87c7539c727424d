-- THE TAPE: the bytes that the rules write are the events' records. Where the tape fits the lent output, the output is the encoded records in order,
-- totals last, and then what was lent; the tape's end is its length. Both runs of the rules, the one that writes and the one that lists, go side by side.
-- Assumes nothing.
use mathlib.Core.Path.{◌≡◌, refl, sym, ap, ◌∙◌, subst}
use mathlib.Core.Bool.{Bool, true, false, cond}
use mathlib.Core.List.{List, [], ◌∷◌, ◌++◌}
use Prim.Native.Nat.{ℕ, zero, suc, ◌+◌, ◌≤◌, ◌<◌, min}
use native.Mathlib.Nat.{zero-add, add-zero}
use native.Mathlib.Omega.{arith}
use lib.ListN.{length, drop, length-append}
use lib.Seq.{sets, length-sets, sets-eq}
use lib.Dec.{leb}
use borrow.Author.Tests.{le-leb}
use Rattle.fields.specs.Field.{Field, widths, record_bytes}
use Rattle.fields.proofs.Writing.{sets-append, length-record_bytes}
use Rattle.abstract_sheet.specs.Sheet.{Sheet}
use Rattle.plan_rules.specs.declared.ScenePlan.{ScenePlan}
use Rattle.plan_rules.specs.Limits.{max_total}
use Rattle.plan_rules.specs.Event.{Event, Step, fields_of, encode, saturate, ◌⊞◌, empty_plan, amounts, after}
use Rattle.plan_rules.specs.World.{Query, World, world}
use Rattle.plan_rules.specs.Plan.{plan}
use Rattle.plan_rules.specs.Tape.{put_record, no_tag, on_tape, note, tape}
use Rattle.plan_rules.proofs.Simulation.{Related, the_relation, same_state}
use Rattle.plan_rules.proofs.Simulation.Premises.{Room, no_premises}
use Rattle.plan_rules.proofs.Simulation.Visits.{plan_sim}
use Rattle.plan_rules.specs.Statements.{WritesItsTape}

-- ---- a record's length is what its event adds to the tape's end

encode_length : (e : Event) → length (encode e) ≡ (amounts e).tape_end
unfolding encode
encode_length e = length-record_bytes (fields_of e)

-- and so what it adds to the tape
pub longer : {P : Type 0} (e : Event) (l : List (P × Event)) → length (tape l ++ encode e) ≡ length (tape l) + (amounts e).tape_end
longer e l = length-append (tape l) (encode e) ∙ ap (λ (n : ℕ). length (tape l) + n) (encode_length e)

-- ---- a record on the output

pub put_fits : (o : List ℕ) (at : ℕ) (fs : List Field) → at + widths fs ≤ length o → put_record o at fs ≡ sets o at (record_bytes fs)
unfolding put_record record_bytes
put_fits o at [] h = refl
put_fits o at (f ∷ fs) h = rw (le-leb _ _ h)

pub length_put : (o : List ℕ) (at : ℕ) (fs : List Field) → length (put_record o at fs) ≡ length o
unfolding put_record
length_put o at [] = refl
length_put o at (f ∷ fs) = by (leb (at + widths (f ∷ fs)) (length o))
  where
    by : (t : Bool) → length (cond t (sets o at (record_bytes (f ∷ fs))) o) ≡ length o
    by true = length-sets o at (record_bytes (f ∷ fs))
    by false = refl

-- ---- sums that stop

saturate_add : (m n : ℕ) → saturate m ⊞ n ≡ saturate (m + n)
unfolding saturate ◌⊞◌
saturate_add m zero = ap (λ (n : ℕ). min n max_total) (sym (add-zero m))
saturate_add m (suc n) = omega arith

below_stop : (e n : ℕ) → e ≡ saturate n → n < max_total → e ≡ n
unfolding saturate
below_stop e n h k = omega arith

-- ---- the two runs

module _ {P : Type 0} (o : List ℕ) where
  -- the state's end is the tape's length, stopped; and where the tape fits, the output begins with it
  pub record Run (s : ScenePlan) (l : List (P × Event)) (b : List ℕ) : Type 0 where
    pub ends : s.tape_end ≡ saturate (length (tape l))
    pub same_length : length b ≡ length o
    pub written : length o < max_total → length (tape l) ≤ length o → b ≡ sets o 0 (tape l)

  keeps : (q : Query) (ta : P) (tb : Unit {0}) (e : Event) → Unit {0} → (s : ScenePlan) → Room q s e → (l : List (P × Event)) (b : List ℕ) → Run s l b → Run (after e s) (note ta e s.tape_end l) (on_tape tb e s.tape_end b)
  unfolding after on_tape
  keeps q ta tb e ok s room l b r =
      let grown = longer e l in
      record {
        ends = ap (λ (n : ℕ). n ⊞ (amounts e).tape_end) r.ends ∙ saturate_add (length (tape l)) (amounts e).tape_end ∙ ap saturate (sym grown);
        same_length = length_put b s.tape_end (fields_of e) ∙ r.same_length;
        written = λ small fits.
            let end : s.tape_end ≡ length (tape l) = below_stop s.tape_end (length (tape l)) r.ends (omega arith) in
            let before : b ≡ sets o 0 (tape l) = r.written small (omega arith) in
            put_fits b s.tape_end (fields_of e) (omega (arith, r.same_length))
            ∙ ap (λ (n : ℕ). sets b n (record_bytes (fields_of e))) end
            ∙ ap (λ (x : List ℕ). sets x (length (tape l)) (record_bytes (fields_of e))) before
            ∙ ap (λ (n : ℕ). sets (sets o 0 (tape l)) n (record_bytes (fields_of e))) (sym (zero-add (length (tape l))))
            ∙ sym (sets-append o (tape l) (record_bytes (fields_of e)) 0)
            ∙ encoded (tape l) e;
      }
    where
      encoded : (t : List ℕ) (e : Event) → sets o 0 (t ++ record_bytes (fields_of e)) ≡ sets o 0 (t ++ encode e)
      encoded t e = unfold encode in refl

  pub one_run : (enter : Step → P → P) (S : Sheet) (cells : ℕ) (q : Query) (t : P) (k m : List ℕ) → Related Run (plan enter note S cells q t (world empty_plan [] k m)) (plan no_tag on_tape S cells q tt (world empty_plan o k m))
  unfolding empty_plan saturate
  one_run enter S cells q t k m =
      plan_sim enter no_tag note on_tape S cells q Run (λ d t s p. Unit {0}) (λ t e. Unit {0}) (no_premises enter S q) (keeps q) t tt (λ u. tt) tt empty_plan [] o k m
      (record { ends = refl; same_length = refl; written = λ small fits. refl })

-- ---- the theorem, for the events with any tag

module _ {P : Type 0} (enter : Step → P → P) (S : Sheet) (cells : ℕ) (q : Query) (t : P) (o k m : List ℕ) where
  -- the events, and the run that writes
  abbrev events : List (P × Event)
  events = (plan enter note S cells q t (world empty_plan [] k m)).out

  abbrev run : World (List ℕ)
  run = plan no_tag on_tape S cells q tt (world empty_plan o k m)

  pub tape_end_lem : run.state.tape_end ≡ saturate (length (tape events))
  tape_end_lem = ap (λ (s : ScenePlan). s.tape_end) (sym (same_state (Run o) (one_run {P = P} o enter S cells q t k m))) ∙ (the_relation (Run o) (one_run {P = P} o enter S cells q t k m)).ends

  -- the end decides whether the tape fits (a slice is shorter than 2^64 − 1 bytes)
  pub fits_by_end : length o < max_total → run.state.tape_end ≤ length o → length (tape events) ≤ length o
  fits_by_end small h = by (length (tape events)) run.state.tape_end tape_end_lem h
    where
      by : (n e : ℕ) → e ≡ saturate n → e ≤ length o → n ≤ length o
      by n e d h = unfold saturate in omega arith

  pub exceeds_by_end : length o < run.state.tape_end → length o < length (tape events)
  exceeds_by_end h = by (length (tape events)) run.state.tape_end tape_end_lem h
    where
      by : (n e : ℕ) → e ≡ saturate n → length o < e → length o < n
      by n e d h = unfold saturate in omega arith

  pub the_tape : length o < max_total → length (tape events) ≤ length o
      → (run.state.tape_end ≡ length (tape events)) × (run.out ≡ tape events ++ drop (length (tape events)) o)
  the_tape small fits =
      let r = the_relation (Run o) (one_run {P = P} o enter S cells q t k m) in (
        below_stop run.state.tape_end (length (tape events)) tape_end_lem (omega arith),
        r.written small fits ∙ sets-eq (tape events) o 0 (subst (λ (n : ℕ). n ≤ length o) (sym (zero-add (length (tape events)))) fits) ∙ ap (λ (n : ℕ). tape events ++ drop n o) (zero-add (length (tape events))),
      )

  pub same_output_length : length run.out ≡ length o
  same_output_length = (the_relation (Run o) (one_run {P = P} o enter S cells q t k m)).same_length

-- the statement of specs/Statements: without tags
pub writes_its_tape : WritesItsTape
writes_its_tape S cells q o k m = the_tape no_tag S cells q tt o k m
