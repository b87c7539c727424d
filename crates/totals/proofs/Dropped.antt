-- HOW MANY PROXIES A PLAN CAN DROP. While the list is not full none is. Once it is, every loop that goes on meets the exhausted budget, adds the box of its cell
-- or of its reference, and is over: one for each cell and each reference that is open then. Nothing is asked of the sheet.
-- Assumes nothing.
use mathlib.Core.Path.{◌≡◌, refl, ap, ◌∙◌}
use mathlib.Core.Bool.{Bool, true, false, cond, ◌||◌}
use mathlib.Core.List.{List}
use mathlib.Core.Option.{none}
use Prim.Native.Nat.{ℕ, zero, suc, ◌+◌, ◌≤◌, ◌<◌}
use native.Mathlib.Omega.{arith}
use lib.Dec.{leb}
use borrow.Author.Tests.{le-leb, lt-ltb, le-ltb}
use Rattle.geometry.specs.declared.bbox.WorldBBox.{WorldBBox}
use Rattle.geometry.specs.declared.bbox.Bounds.{Bounds}
use Rattle.geometry.specs.declared.bbox.Bounds.TheVariants.{Absent, Box}
use Rattle.geometry.specs.Bbox.{bbox}
use Rattle.walk.proofs.Offsets.{by_order}
use Rattle.plan_rules.specs.declared.ScenePlan.{ScenePlan}
use Rattle.plan_rules.specs.declared.Reason.{Reason}
use Rattle.plan_rules.specs.Limits.{max_text_instances, max_load_proxies}
use Rattle.plan_rules.specs.Event.{Event, ◌⊞◌, after}
use Rattle.plan_rules.specs.World.{Query, detail_budget_exhausted, World, Flow, go, halt, bind, ending, each}
use Rattle.plan_rules.specs.Push.{say, add_load, add_load_if_boxed}
use Rattle.plan_rules.specs.Tape.{no_tag, note}
use Rattle.totals.specs.Proxies.{load_of, dropped_in, dropped_proxies}

abbrev pub Noted : Type 0
Noted = World (List (Unit {0} × Event))

abbrev pub NotedFlow : Type 0
NotedFlow = Flow (List (Unit {0} × Event))

abbrev pub Free : Noted → Type 0
Free w = w.state.load_proxies < max_load_proxies

abbrev pub Full : Noted → Type 0
Full w = max_load_proxies ≤ w.state.load_proxies

abbrev pub dropped_at : Noted → ℕ
dropped_at w = dropped_proxies w.out

-- ---- from a list that is not full: none dropped while it stays so, and at most g when it is full
pub data Adds (g : ℕ) (w v : Noted) : Type 0 where
  still : Free v → dropped_at v ≡ dropped_at w → Adds g w v
  filled : Full v → dropped_at v ≤ dropped_at w + g → Adds g w v

-- the same of a visit that may be over, which drops one more
abbrev pub AddsFlow : ℕ → Noted → NotedFlow → Type 0
AddsFlow g w (go v) = Adds g w v
AddsFlow g w (halt v) = Adds (g + 1) w v

-- ---- from a full list: what goes on drops none, and what is over drops one
abbrev pub MeetsFull : Noted → NotedFlow → Type 0
MeetsFull w (go v) = Full v × (dropped_at v ≡ dropped_at w)
MeetsFull w (halt v) = Full v × (dropped_at v ≤ dropped_at w + 1)

pub record Unwinds (g : ℕ) (f : Noted → NotedFlow) : Type 0 where
  pub free : (w : Noted) → Free w → AddsFlow g w (f w)
  pub full : (w : Noted) → Full w → MeetsFull w (f w)

-- ---- laws

same : {g : ℕ} (w v : Noted) → dropped_at v ≡ dropped_at w → Adds g w v
same w v e = by_order max_load_proxies v.state.load_proxies (λ h. filled h (omega (arith, e))) (λ h. still h e)

pub more : {g h : ℕ} {w v : Noted} → g ≤ h → Adds g w v → Adds h w v
more l (still f e) = still f e
more l (filled f e) = filled f (omega arith)

pub after_same : {g : ℕ} {u w v : Noted} → dropped_at w ≡ dropped_at u → Adds g w v → Adds g u v
after_same e (still f h) = still f (h ∙ e)
after_same e (filled f h) = filled f (omega (arith, e))

pub ending_adds : (g : ℕ) {w : Noted} (x : NotedFlow) → AddsFlow g w x → Adds (g + 1) w (ending x)
ending_adds g (go v) h = more (omega arith) h
ending_adds g (halt v) h = h

pub cond_adds : {g : ℕ} {w : Noted} (b : Bool) (x y : Noted) → Adds g w x → Adds g w y → Adds g w (cond b x y)
cond_adds true x y h k = h
cond_adds false x y h k = k

pub cond_flow : (g : ℕ) (w : Noted) (b : Bool) (x y : NotedFlow) → AddsFlow g w x → AddsFlow g w y → AddsFlow g w (cond b x y)
cond_flow g w true x y h k = h
cond_flow g w false x y h k = k

-- ---- one thing after the other

bind_full : (w : Noted) (x : NotedFlow) (f : Noted → NotedFlow) → ((v : Noted) → Full v → MeetsFull v (f v)) → MeetsFull w x → MeetsFull w (bind x f)
bind_full w (go v) f h k = onward (f v) (h v k.0)
  where
    onward : (y : NotedFlow) → MeetsFull v y → MeetsFull w y
    onward (go u) m = (m.0, m.1 ∙ k.1)
    onward (halt u) m = (m.0, omega (arith, m.1, k.1))
bind_full w (halt v) f h k = k

bind_free : (g : ℕ) (w : Noted) (x : NotedFlow) (f : Noted → NotedFlow) → Unwinds g f → AddsFlow g w x → AddsFlow g w (bind x f)
bind_free g w (go v) f h (still k e) = onward (f v) (h.free v k)
  where
    onward : (y : NotedFlow) → AddsFlow g v y → AddsFlow g w y
    onward (go u) m = after_same e m
    onward (halt u) m = after_same e m
bind_free g w (go v) f h (filled k e) = onward (f v) (h.full v k)
  where
    onward : (y : NotedFlow) → MeetsFull v y → AddsFlow g w y
    onward (go u) m = filled m.0 (omega (arith, m.1))
    onward (halt u) m = filled m.0 (omega (arith, m.1))
bind_free g w (halt v) f h k = k

pub bind_unwinds : {g : ℕ} (e f : Noted → NotedFlow) → Unwinds g e → Unwinds g f → Unwinds g (λ w. bind (e w) f)
bind_unwinds {g = g} e f h k = record { free = λ w l. bind_free g w (e w) f k (h.free w l); full = λ w l. bind_full w (e w) f k.full (h.full w l) }

pub each_unwinds : {g : ℕ} (f : ℕ → Noted → NotedFlow) → ((i : ℕ) → Unwinds g (f i)) → (n i : ℕ) → Unwinds g (each f n i)
unfolding each
each_unwinds f h zero i = record { free = λ w l. still l refl; full = λ w l. (l, refl) }
each_unwinds f h (suc n) i = bind_unwinds (f i) (each f n (i + 1)) (h i) (each_unwinds f h n (i + 1))

-- ---- a full list exhausts the budget

or_last : (a b c : Bool) → c ≡ true → a || b || c ≡ true
or_last true b c e = refl
or_last false true c e = refl
or_last false false c e = e

pub exhausted : (q : Query) (s : ScenePlan) → max_load_proxies ≤ s.load_proxies → detail_budget_exhausted q s ≡ true
unfolding detail_budget_exhausted
exhausted q s h = or_last (leb q.object_limit s.detail_objects) (leb max_text_instances s.texts) _ (le-leb _ _ h)

-- ---- events and proxies

-- an event that is no proxy
pub say_adds : {g : ℕ} (e : Event) (w : Noted) → load_of e ≡ none → Adds g w (say no_tag note tt e w)
unfolding say
say_adds e w none-called = same w _ (ap (λ (n : ℕ). n + dropped_at w) (ap dropped_in none-called) ∙ omega arith)

pub load_free : {g : ℕ} (y : Reason) (l : ℕ) (b : WorldBBox) (w : Noted) → Free w → Adds g w (add_load no_tag note tt y l b w)
unfolding add_load say
load_free y l b w h = rw (lt-ltb _ _ h) (same w _ (omega arith))

pub load_full : (y : Reason) (l : ℕ) (b : WorldBBox) (w : Noted) → Full w → let v = add_load no_tag note tt y l b w in Full v × (dropped_at v ≤ dropped_at w + 1)
unfolding add_load say after ◌⊞◌
load_full y l b w h = rw (le-ltb _ _ h) (h, omega arith)

pub boxed_free : {g : ℕ} (y : Reason) (l : ℕ) (b : Bounds) (w : Noted) → Free w → Adds g w (add_load_if_boxed no_tag note tt y l b w)
boxed_free y l Absent w h = still h refl
boxed_free y l (Box x₀ y₀ x₁ y₁) w h = load_free y l (bbox x₀ y₀ x₁ y₁) w h

pub boxed_full : (y : Reason) (l : ℕ) (b : Bounds) (w : Noted) → Full w → let v = add_load_if_boxed no_tag note tt y l b w in Full v × (dropped_at v ≤ dropped_at w + 1)
boxed_full y l Absent w h = (h, omega arith)
boxed_full y l (Box x₀ y₀ x₁ y₁) w h = load_full y l (bbox x₀ y₀ x₁ y₁) w h
