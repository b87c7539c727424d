-- LISTED AND DROPPED PROXIES ARE THOSE CALLED FOR: the state counts the listed ones, never beyond the limit, and the dropped ones until the count stops.
-- Nothing is asked of the sheet. Assumes nothing.
use mathlib.Core.Path.{◌≡◌, refl, sym, ap, ◌∙◌}
use mathlib.Core.Bool.{Bool, true, false, cond}
use mathlib.Core.List.{List, [], ◌∷◌}
use mathlib.Core.Option.{Option, none, some}
use Prim.Native.Nat.{ℕ, ◌+◌, ◌≤◌, ◌<◌}
use native.Mathlib.Nat.{zero-add}
use native.Mathlib.Omega.{arith}
use lib.Dec.{ltb, ltb→lt}
use Rattle.abstract_sheet.specs.Sheet.{Sheet}
use Rattle.plan_rules.specs.declared.ScenePlan.{ScenePlan}
use Rattle.plan_rules.specs.Limits.{max_load_proxies, max_total}
use Rattle.plan_rules.specs.Event.{Event, batch, text, point, proxy, dropped_proxy, skipped_member, skipped_batch, culled_reference, culled_batch, detail_cell, totals, Step, saturate, ◌⊞◌, empty_plan, amounts, after}
use Rattle.plan_rules.specs.World.{Query, World, world}
use Rattle.plan_rules.specs.Push.{say, add_load}
use Rattle.plan_rules.specs.Plan.{visit_root, plan}
use Rattle.plan_rules.specs.Tape.{note}
use Rattle.plan_rules.proofs.Simulation.Premises.{Room}
use Rattle.plan_rules.proofs.Invariant.{plan_kept, root_kept}
use Rattle.totals.specs.Proxies.{Load, listed, dropped, load_of, listed_in, dropped_in, called_in, listed_proxies, dropped_proxies, called_for, OneEventEach, ProxiesAddUp}

-- ---- a call of `add_load`

pub one_event_each : (P : Type 0) → OneEventEach P
unfolding add_load say
one_event_each P enter t why label box w = by (ltb w.state.load_proxies max_load_proxies)
  where
    by : (b : Bool) → called_for (cond b (say enter note t (proxy why label box) w) (say enter note t (dropped_proxy why label box) w)).out ≡ 1 + called_for w.out
    by true = refl
    by false = refl

-- ---- sums

-- each is listed or dropped
load_once : (o : Option Load) → listed_in o + dropped_in o ≡ called_in o
load_once none = refl
load_once (some listed) = refl
load_once (some dropped) = refl

pub listed_and_dropped : {P : Type 0} (l : List (P × Event)) → listed_proxies l + dropped_proxies l ≡ called_for l
listed_and_dropped [] = refl
listed_and_dropped (x ∷ l) = omega (arith, load_once (load_of x.1), listed_and_dropped l)

-- a count that has not stopped is the number counted
pub unstopped : (c n : ℕ) → c ≡ saturate n → c < max_total → c ≡ n
unfolding saturate
unstopped c n e h = omega arith

pub stops : (c n : ℕ) → c ≡ saturate n → c ≤ max_total
unfolding saturate
stops c n e = omega arith

pub at_most_counted : (c n : ℕ) → c ≡ saturate n → c ≤ n
unfolding saturate
at_most_counted c n e = omega arith

one_more_dropped : (n : ℕ) → saturate n ⊞ 1 ≡ saturate (1 + n)
unfolding ◌⊞◌ saturate
one_more_dropped n = omega arith

-- a count below the proxies' limit does not stop
pub one_more : (n : ℕ) → n < max_load_proxies → n ⊞ 1 ≡ 1 + n
unfolding ◌⊞◌ saturate
one_more n h = omega arith

-- ---- what every event keeps

pub record Tally {P : Type 0} (s : ScenePlan) (l : List (P × Event)) : Type 0 where
  pub listed : s.load_proxies ≡ listed_proxies l
  pub most : s.load_proxies ≤ max_load_proxies
  pub dropped : s.dropped_load_proxies ≡ saturate (dropped_proxies l)

module _ {P : Type 0} where
  -- an event that lists no proxy and drops none leaves both counts
  other : (t : P) (e : Event) (s : ScenePlan) (l : List (P × Event)) → load_of e ≡ none → (amounts e).load_proxies ≡ 0 → (amounts e).dropped_load_proxies ≡ 0 → Tally s l → Tally (after e s) ((t, e) ∷ l)
  unfolding after ◌⊞◌
  other t e s l none-called none-listed none_dropped h =
      let same : s.load_proxies ⊞ (amounts e).load_proxies ≡ s.load_proxies = ap (λ (n : ℕ). s.load_proxies ⊞ n) none-listed in
      let as_before = h.most in
      record {
        listed = same ∙ h.listed ∙ sym (zero-add (listed_proxies l)) ∙ ap (λ (o : Option Load). listed_in o + listed_proxies l) (sym none-called);
        most = omega (arith, same);
        dropped = ap (λ (n : ℕ). s.dropped_load_proxies ⊞ n) none_dropped
            ∙ h.dropped
            ∙ ap saturate (sym (zero-add (dropped_proxies l)) ∙ ap (λ (o : Option Load). dropped_in o + dropped_proxies l) (sym none-called));
      }

  pub keeps : (q : Query) (t : P) (e : Event) (s : ScenePlan) → Room q s e → (l : List (P × Event)) → Tally s l → Tally (after e s) (note t e s.tape_end l)
  unfolding after ◌⊞◌
  keeps q t (batch n p) s room l h = other t (batch n p) s l refl refl refl h
  keeps q t (text n v) s room l h = other t (text n v) s l refl refl refl h
  keeps q t (point a k v) s room l h = other t (point a k v) s l refl refl refl h
  keeps q t (proxy y a b) s room l h =
      let r = ltb→lt s.load_proxies max_load_proxies room in
      let more = one_more s.load_proxies r in
      record {
        listed = more ∙ ap (λ (n : ℕ). 1 + n) h.listed;
        most = omega (arith, more);
        dropped = h.dropped ∙ ap saturate (sym (zero-add (dropped_proxies l)));
      }
  keeps q t (dropped_proxy y a b) s room l h =
      record {
        listed = h.listed ∙ sym (zero-add (listed_proxies l));
        most = h.most;
        dropped = ap (λ (n : ℕ). n ⊞ 1) h.dropped ∙ one_more_dropped (dropped_proxies l);
      }
  keeps q t (skipped_member g b) s room l h = other t (skipped_member g b) s l refl refl refl h
  keeps q t (skipped_batch b) s room l h = other t (skipped_batch b) s l refl refl refl h
  keeps q t culled_reference s room l h = other t culled_reference s l refl refl refl h
  keeps q t culled_batch s room l h = other t culled_batch s l refl refl refl h
  keeps q t detail_cell s room l h = other t detail_cell s l refl refl refl h
  keeps q t (totals u) s room l h = other t (totals u) s l refl refl refl h

  pub empty : Tally {P = P} empty_plan []
  unfolding empty_plan saturate
  empty = record { listed = refl; most = omega arith; dropped = refl }

-- ---- of a plan

module _ {P : Type 0} (enter : Step → P → P) (S : Sheet) (cells : ℕ) (q : Query) (t : P) (k m : List ℕ) where
  -- the world in which all visits end
  abbrev pub visited : World (List (P × Event))
  visited = visit_root enter note S cells q q.depth t (world empty_plan [] k m)

  pub visits_tally : Tally visited.state visited.out
  visits_tally = root_kept enter note S cells q Tally (λ t e ok. keeps q t e) t (world empty_plan [] k m) empty

  -- "15 totals, last": they are the state's after all visits
  pub totals_last : (plan enter note S cells q t (world empty_plan [] k m)).out ≡ (t, totals visited.state) ∷ visited.out
  unfolding plan say
  totals_last = refl

-- ---- the theorem about the rules

pub proxies_add_up : (P : Type 0) → ProxiesAddUp P
proxies_add_up P enter S cells q t k m =
    let w = plan enter note S cells q t (world empty_plan [] k m) in
    let h : Tally w.state w.out = plan_kept enter note S cells q Tally (keeps q) t (world empty_plan [] k m) empty in
    record {
      listed = h.listed;
      most = h.most;
      dropped = h.dropped;
      together = λ going. omega (arith, h.listed, unstopped _ _ h.dropped going, listed_and_dropped w.out);
    }
