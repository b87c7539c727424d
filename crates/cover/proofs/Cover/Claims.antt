-- What an event at a tag does for a path; what is covered stays covered, since the events only grow; and a box that holds something in view touches the view.
-- Assumes nothing.
use mathlib.Core.Path.{◌≡◌, sym, subst}
use mathlib.Core.Bool.{not}
use mathlib.Core.List.{List, []}
use Prim.Native.Nat.{ℕ}
use lib.Dec.{ltb}
use lib.Dec.{T as Yes}
use Rattle.geometry.specs.declared.bbox.WorldBBox.{WorldBBox}
use Rattle.geometry.specs.declared.bbox.Bounds.{Bounds}
use Rattle.geometry.specs.Bbox.{boxed, overlaps}
use Rattle.exact.specs.Box.{IntegerBox, Touches, IsBox, box_of}
use Rattle.exact.proofs.Boxes.Relations.{holds_touches, encloses_touches}
use Rattle.exact.proofs.Boxes.Tests.{overlaps_exact}
use Rattle.plan_rules.specs.declared.ScenePlan.{ScenePlan}
use Rattle.plan_rules.specs.Limits.{max_load_proxies}
use Rattle.plan_rules.specs.declared.Reason.{Reason}
use Rattle.plan_rules.specs.Event.{Event, proxy, dropped_proxy, Step, after}
use Rattle.plan_rules.specs.World.{Query, World}
use Rattle.plan_rules.specs.Push.{say, add_load, add_load_if_boxed}
use Rattle.plan_rules.specs.Tape.{note}
use Rattle.plan_rules.proofs.Simulation.Premises.{Room}
use Rattle.cover.specs.Path.{Path, Item, a_batch, a_text, a_point}
use Rattle.cover.specs.View.{placed_batch, text_position, point_position, WithinBox, WholeView, InView}
use Rattle.cover.specs.Trace.{enter, Any, here, before}
use Rattle.cover.specs.Covered.{Lists, IsSkip}
use Rattle.cover.proofs.Tests.{cond_case, not_not}
use Rattle.cover.proofs.TagPaths.{Tagged, back}
use Rattle.cover.proofs.Enclosure.{HasElements}

-- ---- items in view

pub view_has_elements : (view : WorldBBox) (h : Item) → InView view h → HasElements h
view_has_elements view (a_batch n g T) v = v.0
view_has_elements view (a_text n x T) v = tt
view_has_elements view (a_point n x j T) v = tt

-- a box that holds something in view touches the view
pub view_touches : (view : WorldBBox) (h : Item) (z : IntegerBox) → InView view h → WithinBox h z → Touches z (box_of view)
view_touches view (a_batch n g T) z v w = encloses_touches (placed_batch g T) z (box_of view) w v.1
view_touches view (a_text n x T) z v w = holds_touches z (box_of view) (text_position x T) w v
view_touches view (a_point n x j T) z v w = holds_touches z (box_of view) (point_position x j T) w v

-- and so it is not culled
pub not_culled : (view : WorldBBox) → WholeView view → (b : WorldBBox) (z : IntegerBox) → IsBox b z → Touches z (box_of view) → Yes (not (overlaps b view)) → ⊥
not_culled view whole b z i t y = not_not (overlaps b view) (overlaps_exact b view z (box_of view) i whole t) y

-- ---- what an event at the tag t does for the path p to the item h

pub data Claims (p : Path) (h : Item) : List Step → Event → Type 0 where
  by_record : {t : List Step} {e : Event} → back t [] ≡ p → Lists h e → Claims p h t e
  by_proxy : {t : List Step} {y : Reason} {l : ℕ} {b : WorldBBox} {z : IntegerBox} → IsBox b z → WithinBox h z → Claims p h t (proxy y l b)
  by_dropped : {t : List Step} {y : Reason} {l : ℕ} {b : WorldBBox} {z : IntegerBox} → IsBox b z → WithinBox h z → Claims p h t (dropped_proxy y l b)
  by_skip : {t : List Step} {e : Event} (r : Path) → back t r ≡ p → IsSkip e → Claims p h t e

abbrev pub Claimed : Path → Item → World Tagged → Type 0
Claimed p h w = Any (λ (x : List Step × Event). Claims p h x.0 x.1) w.out

module _ (p : Path) (h : Item) where
  -- an invariant of every visit
  abbrev pub Grown : ScenePlan → Tagged → Type 0
  Grown s l = Any (λ (x : List Step × Event). Claims p h x.0 x.1) l

  pub grown : (q : Query) (t : List Step) (e : Event) (s : ScenePlan) → Room q s e → (l : Tagged) → Grown s l → Grown (after e s) (note t e s.tape_end l)
  grown q t e s room l k = before k

  -- ---- single events

  pub say_claims : (t : List Step) (e : Event) → Claims p h t e → (w : World Tagged) → Claimed p h (say enter note t e w)
  unfolding say
  say_claims t e c w = here c

  pub load_claims : (t : List Step) (y : Reason) (l : ℕ) (b : WorldBBox) (z : IntegerBox) → IsBox b z → WithinBox h z → (w : World Tagged) → Claimed p h (add_load enter note t y l b w)
  unfolding add_load
  load_claims t y l b z i k w =
      cond_case (Claimed p h) (ltb w.state.load_proxies max_load_proxies) _ _ (λ _. say_claims t (proxy y l b) (by_proxy i k) w) (λ _. say_claims t (dropped_proxy y l b) (by_dropped i k) w)

  pub load_if_boxed_claims : (t : List Step) (y : Reason) (l : ℕ) (o : Bounds) (b : WorldBBox) (z : IntegerBox) → o ≡ boxed b → IsBox b z → WithinBox h z → (w : World Tagged) → Claimed p h (add_load_if_boxed enter note t y l o w)
  unfolding boxed
  load_if_boxed_claims t y l o b z e i k w = subst (λ (u : Bounds). Claimed p h (add_load_if_boxed enter note t y l u w)) (sym e) (load_claims t y l b z i k w)
