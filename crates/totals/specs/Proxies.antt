-- PROXIES THAT DID NOT FIT, as statements. Document 02, paper 8: "The totals gain a seventh count: proxies that met a full list. .. Listed plus dropped proxies
-- equal the proxies that the rules call for, until the seventh count stops at 2^64 − 1 like the rest."
-- Definitions only; rests on the rules and on the count of a sheet's records, which serves the tape's. Proofs: `Proxies`, `Dropped`, `DroppedVisits` and `Tape` in proofs/.
use Rattle.std.specs.Prelude.{◌≡◌, List, [], ◌∷◌, ℕ, ◌+◌, ◌-◌, ◌*◌, ◌≤◌, ◌<◌, length, take}
use Rattle.std.proofs.Math.Option.{Option, none, some}
use Rattle.geometry.specs.declared.bbox.WorldBBox.{WorldBBox}
use Rattle.fields.specs.Field.{uint_at}
use Rattle.walk.specs.Offsets.{offsets_from}
use Rattle.walk.specs.Find.{count_in}
use Rattle.abstract_sheet.specs.Sheet.{Sheet, sheet_of}
use Rattle.check_sheet.specs.Count.{counts_of}
use Rattle.plan_rules.specs.declared.ScenePlan.{ScenePlan}
use Rattle.plan_rules.specs.declared.Reason.{Reason}
use Rattle.plan_rules.specs.Limits.{max_load_proxies, max_total}
use Rattle.plan_rules.specs.Event.{Event, batch, text, point, proxy, dropped_proxy, skipped_member, skipped_batch, culled_reference, culled_batch, detail_cell, totals, Step, saturate, empty_plan}
use Rattle.plan_rules.specs.World.{Query, World, world}
use Rattle.plan_rules.specs.Push.{add_load}
use Rattle.plan_rules.specs.Plan.{plan}
use Rattle.plan_rules.specs.Tape.{no_tag, note}
use Rattle.plan_rules.specs.Outcome.{fresh_plan, outcome_of}

-- ---- the events of a plan

-- What becomes of a proxy that the rules call for. A call of `add_load` makes one event, of one of these kinds (`OneEventEach`). No other rule makes
-- either: that is read in `Push`, where both events are said once, and not proved.
pub data Load : Type 0 where
  listed dropped : Load

abbrev pub load_of : Event → Option Load
load_of (batch number placement) = none
load_of (text number position) = none
load_of (point layer type position) = none
load_of (proxy why label box) = some listed
load_of (dropped_proxy why label box) = some dropped
load_of (skipped_member degenerate box) = none
load_of (skipped_batch box) = none
load_of culled_reference = none
load_of culled_batch = none
load_of detail_cell = none
load_of (totals plan) = none

abbrev pub listed_in : Option Load → ℕ
listed_in none = 0
listed_in (some listed) = 1
listed_in (some dropped) = 0

abbrev pub dropped_in : Option Load → ℕ
dropped_in none = 0
dropped_in (some listed) = 0
dropped_in (some dropped) = 1

abbrev pub called_in : Option Load → ℕ
called_in none = 0
called_in (some load) = 1

module _ {P : Type 0} where
  abbrev pub how_many : (Option Load → ℕ) → List (P × Event) → ℕ
  how_many counted [] = 0
  how_many counted (x ∷ l) = counted (load_of x.1) + how_many counted l

  abbrev pub listed_proxies : List (P × Event) → ℕ
  listed_proxies l = how_many listed_in l

  abbrev pub dropped_proxies : List (P × Event) → ℕ
  dropped_proxies l = how_many dropped_in l

  -- "the proxies that the rules call for"
  abbrev pub called_for : List (P × Event) → ℕ
  called_for l = how_many called_in l

-- a call of `add_load` is one proxy called for
abbrev pub OneEventEach : Type 0 → Type 0
OneEventEach P = (enter : Step → P → P) (t : P) (why : Reason) (label : ℕ) (box : WorldBBox) (w : World (List (P × Event)))
    → called_for (add_load enter note t why label box w).out ≡ 1 + called_for w.out

-- ---- of the rules

-- what the state counts of the events so far
pub record AddsUp {P : Type 0} (s : ScenePlan) (l : List (P × Event)) : Type 0 where
  pub listed : s.load_proxies ≡ listed_proxies l
  pub most : s.load_proxies ≤ max_load_proxies
  -- "proxies that met a full list", and the count "stops at 2^64 − 1"
  pub dropped : s.dropped_load_proxies ≡ saturate (dropped_proxies l)
  -- "Listed plus dropped proxies equal the proxies that the rules call for, until the seventh count stops"
  pub together : s.dropped_load_proxies < max_total → s.load_proxies + s.dropped_load_proxies ≡ called_for l

-- after a plan, whatever its tags, sheet, query and scratch
abbrev pub ProxiesAddUp : Type 0 → Type 0
ProxiesAddUp P = (enter : Step → P → P) (S : Sheet) (cells : ℕ) (q : Query) (t : P) (k m : List ℕ)
    → let w = plan enter note S cells q t (world empty_plan [] k m) in AddsUp w.state w.out

-- ---- how many can be dropped

-- Once the list is full each open cell and each open reference adds one box more and is over: at most so many.
abbrev pub most_dropped : ℕ → ℕ
most_dropped depth = 2 * depth - 1

-- ---- of an accepted call

-- the rules' events for the sheet of these bytes, from zeroed scratch
abbrev pub untagged_events : List ℕ → Query → List (Unit {0} × Event)
untagged_events s q = (fresh_plan no_tag note (sheet_of s) (counts_of s).cells q tt []).out

-- "15 totals, last", of which the seventh count is the last field
abbrev pub seventh_count : List ℕ → ℕ
seventh_count tape = uint_at 8 tape (length tape - 8)

-- how many records of kind 14 a tape has, counted as a sheet's records are
abbrev pub proxy_records : List ℕ → ℕ
proxy_records tape = count_in tape 14 (offsets_from tape 0)

-- what the bytes of a tape say of the events: its proxies, and its last field
pub record TapeAddsUp (tape : List ℕ) (l : List (Unit {0} × Event)) : Type 0 where
  pub listed : proxy_records tape ≡ listed_proxies l
  pub most : proxy_records tape ≤ max_load_proxies
  pub dropped : seventh_count tape ≡ saturate (dropped_proxies l)
  pub together : seventh_count tape < max_total → proxy_records tape + seventh_count tape ≡ called_for l

abbrev pub CallAddsUp : Type 0
CallAddsUp = (s : List ℕ) (q : Query) (o k m : List ℕ) → let c = outcome_of s q o k m in c.number ≡ 0 → TapeAddsUp (take c.tape_length c.out) (untagged_events s q)

-- "until the seventh count stops": of an accepted call it cannot stop
abbrev pub CallDropsAtMost : Type 0
CallDropsAtMost = (s : List ℕ) (q : Query) (o k m : List ℕ) → let c = outcome_of s q o k m in c.number ≡ 0 → seventh_count (take c.tape_length c.out) ≤ most_dropped q.depth

-- so its sum always holds, and it never calls for more
abbrev pub CallAlwaysAddsUp : Type 0
CallAlwaysAddsUp = (s : List ℕ) (q : Query) (o k m : List ℕ)
    → let c = outcome_of s q o k m in
    let tape = take c.tape_length c.out in
    c.number ≡ 0 → proxy_records tape + seventh_count tape ≡ called_for (untagged_events s q)

abbrev pub CallsForAtMost : Type 0
CallsForAtMost = (s : List ℕ) (q : Query) (o k m : List ℕ) → (outcome_of s q o k m).number ≡ 0 → called_for (untagged_events s q) ≤ max_load_proxies + most_dropped q.depth
