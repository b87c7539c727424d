-- WHAT THE BYTES SAY: the records of kind 14 on a tape are the listed proxies, and its last field is the count of the dropped ones. So an accepted call adds up.
-- Assumes nothing.
use mathlib.Core.Path.{◌≡◌, refl, sym, ap, ◌∙◌, subst}
use mathlib.Core.Bool.{cond}
use mathlib.Core.List.{List, [], ◌∷◌, ◌++◌, append_assoc, append-nil}
use Prim.Native.Nat.{ℕ, ◌+◌, ◌-◌, ◌^◌, ◌≤◌, ◌<◌}
use native.Mathlib.Nat.{mod-eq_of_lt, zero-add}
use native.Mathlib.Omega.{arith}
use lib.ListN.{length, take, drop, replicate, length-append}
use lib.Seq.{take_at}
use lib.Dec.{eqb}
use Rattle.fields.specs.Field.{Field, uint, uint_at, uint_bytes, widths, field_bytes, record_bytes}
use Rattle.fields.specs.Head.{head_width}
use Rattle.fields.proofs.Writing.{length-uint_bytes, length-record_bytes}
use Rattle.fields.proofs.ReadBack.{uint_at_appended}
use Rattle.walk.specs.Offsets.{length_at, kind_at, offsets_from}
use Rattle.walk.specs.Find.{count_in, of_kind_in}
use Rattle.walk.proofs.Offsets.{offsets_end, offsets_more}
use Rattle.walk.proofs.Finding.{count_step}
use Rattle.abstract_sheet.specs.Sheet.{Sheet, sheet_of}
use Rattle.check_sheet.specs.declared.Counts.{Counts}
use Rattle.check_sheet.proofs.Valid.{sound_counts}
use Rattle.plan_rules.specs.declared.ScenePlan.{ScenePlan}
use Rattle.plan_rules.specs.Limits.{max_total}
use Rattle.plan_rules.specs.Event.{Event, batch, text, point, proxy, dropped_proxy, skipped_member, skipped_batch, culled_reference, culled_batch, detail_cell, totals, header, fields_of, encode, saturate, empty_plan}
use Rattle.plan_rules.specs.World.{Query, world}
use Rattle.plan_rules.specs.Scratch.{counts_named, marks_named}
use Rattle.plan_rules.specs.Plan.{plan}
use Rattle.plan_rules.specs.Tape.{no_tag, note, tape}
use Rattle.plan_rules.specs.Outcome.{Outcome, fresh_plan, tape_of, outcome_of}
use Rattle.plan_rules.proofs.Questions.{passed}
use Rattle.plan_rules.proofs.Accepted.{AcceptedOutcome, accepted_outcome}
use Rattle.totals.specs.Proxies.{load_of, listed_in, listed_proxies, dropped_proxies, untagged_events, seventh_count, proxy_records, TapeAddsUp, CallAddsUp, most_dropped, CallDropsAtMost, CallAlwaysAddsUp, CallsForAtMost}
use Rattle.totals.proofs.Proxies.{listed_and_dropped, unstopped, stops, at_most_counted, visited, visits_tally, totals_last}
use Rattle.totals.proofs.DroppedVisits.{visits_drop_at_most}

-- ---- a record at hand

module _ (kind : ℕ) (rest : List Field) (small : head_width + widths rest < 256 ^ 4) (known : kind < 256 ^ 2) (p r : List ℕ) where
  abbrev whole : List ℕ
  whole = record_bytes (header kind rest)

  abbrev bytes : List ℕ
  bytes = p ++ (whole ++ r)

  length_read : length_at bytes (length p) ≡ head_width + widths rest
  unfolding record_bytes
  length_read =
      ap (λ (l : List ℕ). uint_at 4 (p ++ l) (length p)) (append_assoc (uint_bytes 4 (head_width + widths rest)) _ r)
      ∙ uint_at_appended 4 (head_width + widths rest) p _
      ∙ mod-eq_of_lt small

  kind_read : kind_at bytes (length p) ≡ kind
  unfolding record_bytes
  kind_read =
      let size = uint_bytes 4 (head_width + widths rest) in
      let at : length p + 4 ≡ length (p ++ size) = omega (arith, length-append p size, length-uint_bytes 4 (head_width + widths rest)) in
      ap (λ (n : ℕ). uint_at 2 bytes n) at
      ∙ ap (λ (l : List ℕ). uint_at 2 l (length (p ++ size))) (ap (λ (l : List ℕ). p ++ l) (append_assoc size _ r) ∙ sym (append_assoc p size _) ∙ ap (λ (l : List ℕ). (p ++ size) ++ l) (append_assoc (uint_bytes 2 kind) _ r))
      ∙ uint_at_appended 2 kind (p ++ size) _
      ∙ mod-eq_of_lt known

  length_whole : length whole ≡ head_width + widths rest
  length_whole = length-record_bytes (header kind rest) ∙ omega arith

  -- it is one of its kind, and the next record follows it
  record_counted : (wanted : ℕ) → count_in bytes wanted (offsets_from bytes (length p)) ≡ cond (eqb kind wanted) 1 0 + count_in bytes wanted (offsets_from bytes (length (p ++ whole)))
  record_counted wanted =
      let within : length p < length bytes = omega (arith, length-append p (whole ++ r), length-append whole r, length_whole) in
      let next : length p + length_at bytes (length p) ≡ length (p ++ whole) = omega (arith, length_read, length-append p whole, length_whole) in
      ap (count_in bytes wanted) (offsets_more bytes (length p) within (omega (arith, length_read)))
      ∙ count_step bytes wanted (length p) _
      ∙ ap (λ (n : ℕ). cond (eqb n wanted) 1 0 + count_in bytes wanted (offsets_from bytes (length p + length_at bytes (length p)))) kind_read
      ∙ ap (λ (n : ℕ). cond (eqb kind wanted) 1 0 + count_in bytes wanted (offsets_from bytes n)) next

-- ---- the records of kind 14

-- how many from an offset on
abbrev proxies_from : List ℕ → ℕ → ℕ
proxies_from s at = count_in s 14 (offsets_from s at)

unwritten : (p r : List ℕ) → proxies_from (p ++ r) (length p) ≡ 0 + proxies_from (p ++ r) (length (p ++ []))
unwritten p r = ap (λ (l : List ℕ). proxies_from (p ++ r) (length l)) (sym (append-nil p)) ∙ sym (zero-add _)

-- what follows the head of an event's record
abbrev body : Event → List Field
body e = drop 2 (fields_of e)

event_counted : (e : Event) (p r : List ℕ) → proxies_from (p ++ (encode e ++ r)) (length p) ≡ listed_in (load_of e) + proxies_from (p ++ (encode e ++ r)) (length (p ++ encode e))
unfolding encode
event_counted (batch n t) p r = record_counted 11 (body (batch n t)) (omega arith) (omega arith) p r 14
event_counted (text n v) p r = record_counted 12 (body (text n v)) (omega arith) (omega arith) p r 14
event_counted (point l k v) p r = record_counted 13 (body (point l k v)) (omega arith) (omega arith) p r 14
event_counted (proxy y l b) p r = record_counted 14 (body (proxy y l b)) (omega arith) (omega arith) p r 14
event_counted (dropped_proxy y l b) p r = unfold record_bytes in unwritten p r
event_counted (skipped_member g b) p r = unfold record_bytes in unwritten p r
event_counted (skipped_batch b) p r = unfold record_bytes in unwritten p r
event_counted culled_reference p r = unfold record_bytes in unwritten p r
event_counted culled_batch p r = unfold record_bytes in unwritten p r
event_counted detail_cell p r = unfold record_bytes in unwritten p r
event_counted (totals s) p r = record_counted 15 (body (totals s)) (omega arith) (omega arith) p r 14

tape_counted : {P : Type 0} (l : List (P × Event)) (r : List ℕ) → proxies_from (tape l ++ r) 0 ≡ listed_proxies l + proxies_from (tape l ++ r) (length (tape l))
tape_counted [] r = sym (zero-add (proxies_from r 0))
tape_counted (x ∷ l) r =
    let e = x.1 in
    ap (λ (s : List ℕ). proxies_from s 0) (append_assoc (tape l) (encode e) r)
    ∙ tape_counted l (encode e ++ r)
    ∙ ap (λ (n : ℕ). listed_proxies l + n) (event_counted e (tape l) r)
    ∙ ap (λ (s : List ℕ). listed_proxies l + (listed_in (load_of e) + proxies_from s (length (tape l ++ encode e)))) (sym (append_assoc (tape l) (encode e) r))
    ∙ omega arith

pub proxies_on_tape : {P : Type 0} (l : List (P × Event)) → proxy_records (tape l) ≡ listed_proxies l
proxies_on_tape l =
    let all : tape l ++ [] ≡ tape l = append-nil (tape l) in
    let none_left : proxies_from (tape l) (length (tape l)) ≡ 0 = ap (count_in (tape l) 14) (offsets_end (tape l) (length (tape l)) (omega arith)) ∙ unfold of_kind_in in refl in
    subst (λ (s : List ℕ). proxies_from s 0 ≡ listed_proxies l + proxies_from s (length (tape l))) all (tape_counted l [])
    ∙ omega (arith, none_left)

-- ---- the last field

record_append : (fs gs : List Field) → record_bytes (fs ++ gs) ≡ record_bytes fs ++ record_bytes gs
unfolding record_bytes
record_append [] gs = refl
record_append (f ∷ fs) gs = ap (λ (l : List ℕ). field_bytes f ++ l) (record_append fs gs) ∙ sym (append_assoc (field_bytes f) (record_bytes fs) (record_bytes gs))

-- the totals' record but for its last field
abbrev front : ScenePlan → List ℕ
front s = record_bytes (take 8 (fields_of (totals s)))

totals_split : (s : ScenePlan) → encode (totals s) ≡ front s ++ (uint_bytes 8 s.dropped_load_proxies ++ [])
unfolding encode
totals_split s = record_append (take 8 (fields_of (totals s))) (uint 8 s.dropped_load_proxies ∷ []) ∙ ap (λ (l : List ℕ). front s ++ l) (unfold record_bytes in refl)

seventh : {P : Type 0} (l : List (P × Event)) (t : P) (s : ScenePlan) → s.dropped_load_proxies ≤ max_total → seventh_count (tape ((t, totals s) ∷ l)) ≡ s.dropped_load_proxies
seventh l t s small =
    let d = s.dropped_load_proxies in
    let before = tape l ++ front s in
    let whole : tape l ++ encode (totals s) ≡ before ++ (uint_bytes 8 d ++ []) = ap (λ (b : List ℕ). tape l ++ b) (totals_split s) ∙ sym (append_assoc (tape l) (front s) _) in
    let at : length (before ++ (uint_bytes 8 d ++ [])) - 8 ≡ length before = omega (arith, length-append before (uint_bytes 8 d ++ []), length-append (uint_bytes 8 d) [], length-uint_bytes 8 d) in
    ap seventh_count whole
    ∙ ap (λ (n : ℕ). uint_at 8 (before ++ (uint_bytes 8 d ++ [])) n) at
    ∙ uint_at_appended 8 d before []
    ∙ mod-eq_of_lt (omega arith)

-- ---- the tape of a plan

fresh_adds_up : (S : Sheet) (cells : ℕ) (q : Query) → TapeAddsUp (tape_of S cells q) (fresh_plan no_tag note S cells q tt []).out
unfolding tape_of fresh_plan
fresh_adds_up S cells q =
    let k : List ℕ = replicate (counts_named cells q.depth) 0 in
    let m : List ℕ = replicate (marks_named cells q.depth) 0 in
    let v = visited no_tag S cells q tt k m in
    let h = visits_tally no_tag S cells q tt k m in
    let l = (plan no_tag note S cells q tt (world empty_plan [] k m)).out in
    let last : l ≡ (tt, totals v.state) ∷ v.out = totals_last no_tag S cells q tt k m in
    let few : v.state.dropped_load_proxies ≤ max_total = stops _ _ h.dropped in
    let listed = proxies_on_tape l in
    let same : listed_proxies l ≡ listed_proxies v.out = ap listed_proxies last ∙ zero-add (listed_proxies v.out) in
    let dropped : seventh_count (tape l) ≡ saturate (dropped_proxies l) =
    ap (λ (x : List (Unit {0} × Event)). seventh_count (tape x)) last
    ∙ seventh v.out tt v.state few
    ∙ h.dropped
    ∙ ap saturate (sym (zero-add (dropped_proxies v.out)) ∙ ap dropped_proxies (sym last)) in
    record { listed = listed; most = omega (arith, listed, h.listed, h.most, same); dropped = dropped; together = λ going. omega (arith, listed, unstopped _ _ dropped going, listed_and_dropped l) }

-- its last field is what the visits dropped, which is far below the number at which a count stops
fresh_drops_at_most : (S : Sheet) (cells : ℕ) (q : Query) → seventh_count (tape_of S cells q) ≤ most_dropped q.depth
unfolding tape_of fresh_plan
fresh_drops_at_most S cells q =
    let k : List ℕ = replicate (counts_named cells q.depth) 0 in
    let m : List ℕ = replicate (marks_named cells q.depth) 0 in
    let v = visited no_tag S cells q tt k m in
    let h = visits_tally no_tag S cells q tt k m in
    let last = ap (λ (x : List (Unit {0} × Event)). seventh_count (tape x)) (totals_last no_tag S cells q tt k m) in
    omega (arith, last, seventh v.out tt v.state (stops _ _ h.dropped), at_most_counted _ _ h.dropped, visits_drop_at_most S cells q k m)

-- ---- the theorems about an accepted call

module _ (s : List ℕ) (q : Query) (o k m : List ℕ) (e : (outcome_of s q o k m).number ≡ 0) where
  abbrev a : AcceptedOutcome s q o k m
  a = accepted_outcome s q o k m e

  abbrev c : Counts
  c = a.counts

  abbrev t : List ℕ
  t = tape_of (sheet_of s) c.cells q

  cut : take (outcome_of s q o k m).tape_length (outcome_of s q o k m).out ≡ t
  cut = ap (λ (x : Outcome). take x.tape_length x.out) a.planned ∙ take_at t (drop (length t) o) (length t) refl

pub call_adds_up : CallAddsUp
call_adds_up s q o k m e =
    subst (λ (b : List ℕ). TapeAddsUp b (untagged_events s q)) (sym (cut s q o k m e))
    (subst (λ (c : Counts). TapeAddsUp (t s q o k m e) (fresh_plan no_tag note (sheet_of s) c.cells q tt []).out) (sound_counts s (c s q o k m e) (a s q o k m e).sound)
    (fresh_adds_up (sheet_of s) (c s q o k m e).cells q))

pub call_drops_at_most : CallDropsAtMost
call_drops_at_most s q o k m e = subst (λ (b : List ℕ). seventh_count b ≤ most_dropped q.depth) (sym (cut s q o k m e)) (fresh_drops_at_most (sheet_of s) (c s q o k m e).cells q)

pub call_always_adds_up : CallAlwaysAddsUp
call_always_adds_up s q o k m e =
    let few = call_drops_at_most s q o k m e in
    let asked = passed _ _ _ _ _ _ (a s q o k m e).passed in
    (call_adds_up s q o k m e).together (omega (arith, asked.depth_within))

pub calls_for_at_most : CallsForAtMost
calls_for_at_most s q o k m e = omega (arith, call_always_adds_up s q o k m e, call_drops_at_most s q o k m e, (call_adds_up s q o k m e).most)
