-- PAPER 14 OF THE RULES: one use of the rules' induction, with the way from the root as the tag. A visit stands at its exact placement, and below at most eight references its floats
-- lie near that; of deeper ones nothing is said. Assumes nothing.
use mathlib.Core.Path.{◌≡◌, refl, sym, subst}
use mathlib.Core.List.{List, [], ◌∷◌}
use mathlib.Core.Option.{some}
use Prim.Native.Nat.{ℕ, ◌+◌, ◌-◌, ◌*◌, ◌^◌, ◌≤◌, ◌<◌}
use native.Mathlib.Omega.{arith}
use lib.Dec.{T, leb, leb→le}
use lib.Ieee.{Float}
use Rattle.geometry.specs.declared.placement.DVec2.{DVec2}
use Rattle.geometry.specs.declared.placement.Placement.{Placement}
use Rattle.geometry.specs.Placement.{transform_point2}
use Rattle.records.specs.declared.PreparedSource.{PreparedSource}
use Rattle.records.specs.declared.PreparedSource.TheVariants.{Text, Node}
use Rattle.records.specs.declared.PreparedText.{PreparedText}
use Rattle.abstract_sheet.specs.Sheet.{NodeRecord, Sheet}
use Rattle.plan_rules.specs.Event.{Event, batch, text, point, proxy, dropped_proxy, skipped_member, skipped_batch, culled_reference, culled_batch, detail_cell, totals, Step, point_at, empty_plan}
use Rattle.plan_rules.specs.World.{Query, world}
use Rattle.plan_rules.specs.Plan.{plan}
use Rattle.plan_rules.specs.Tape.{note}
use Rattle.plan_rules.proofs.Simulation.Premises.{Premises}
use Rattle.paths.specs.Path.{Path, references, a_text, a_point, at_text, at_point}
use Rattle.paths.proofs.Leads.{one_item}
use Rattle.cover.specs.Trace.{Trace, enter, path_of, events}
use Rattle.cover.proofs.TagPaths.{start, tag_leads, tag_leads_here, references_path, paths_all, all_map}
use Rattle.cover.proofs.EveryEvent.{every_event}
use Rattle.cover.proofs.Standing as standing
use Rattle.fractions.specs.Fraction.{Fraction}
use Rattle.fractions.specs.Placement.{vector_of, FractionPlacement, identity, move}
use Rattle.fractions.specs.Bounds.{SlantedVector}
use Rattle.fractions.specs.Errors.{axis_bound, axis_error, shift_bound, shift_error, position_error, most_bounded}
use Rattle.fractions.proofs.Magnitudes.{most_coarse}
use Rattle.fractions.proofs.Approximates.{Approximates}
use Rattle.fractions.proofs.Levels.{NearAtLevel, identity_near, member_level, position_near, positions_within}
use Rattle.slanted.specs.Sheet.{SlantedSheet}
use Rattle.slanted.specs.Path.{Item, member_at}
use Rattle.slanted.specs.Slanted.{NearNumber, NearPosition, IsPosition, text_position_lem, point_position_lem, Places, places_text, places_point, PlacesItsPath, OnePlacement, PlacesWithin, WithinOfRules, most_references, sixty_fourth, SlantedOfRules, ByReferencesOfRules, Sharper}

pub one_placement : OnePlacement
one_placement S root p h k l m = one_item member_at S l m

-- ---- each record, by the number of references on its path

approximates_near : (E B : ℕ) (x : Float) (v : Fraction) → Approximates x v E B → NearNumber E 53 x v
approximates_near E B x v h = record { finite = h.finite; near = h.near }

moved_near : (n : ℕ) → n ≤ most_bounded → (p : Placement) (T : FractionPlacement) → NearAtLevel n p T → (v : DVec2) → SlantedVector v
    → NearPosition (position_error n) 53 (transform_point2 p v) (move T (vector_of v))
moved_near n n≤ p T h v s =
    let k = position_near n n≤ p T h v s in
    record { x = approximates_near _ _ _ _ k.x; y = approximates_near _ _ _ _ k.y }

module _ (S : Sheet) (q : Query) (slanted : SlantedSheet S) where
  -- the record is near the exact placement of the path with this tag
  abbrev NearItsPath : List Step → Event → Type 0
  NearItsPath t e = references t ≤ most_bounded → PlacesItsPath (position_error (references t)) 53 S q (path_of t) e

  -- what an event says, by its tag
  abbrev Fact : List Step → Event → Type 0
  Fact t (batch n p) = Unit {0}
  Fact t (text n v) = NearItsPath t (text n v)
  Fact t (point l k v) = NearItsPath t (point l k v)
  Fact t (proxy y l b) = Unit {0}
  Fact t (dropped_proxy y l b) = Unit {0}
  Fact t (skipped_member g b) = Unit {0}
  Fact t (skipped_batch b) = Unit {0}
  Fact t culled_reference = Unit {0}
  Fact t culled_batch = Unit {0}
  Fact t detail_cell = Unit {0}
  Fact t (totals s) = Unit {0}

  abbrev Near : ℕ → ℕ → Placement → FractionPlacement → Type 0
  Near d level p T = level ≤ most_bounded → NearAtLevel level p T

  abbrev Stands : ℕ → List Step → PreparedSource → Placement → Type 0
  Stands = standing.Stands member_at S identity q.root Near

  keeps : standing.Keeps member_at S identity q.root Near
  keeps d level p T n r x y h e x< y< l = member_level level l p T (h (omega arith)) r.grid (slanted.grid n r e) x y x< y<

  text_near : (d : ℕ) (t : List Step) (n : ℕ) (x : PreparedText) (p : Placement) → Stands d t (Text n) p → S.text n ≡ some x → Fact t (text n (transform_point2 p x.origin))
  text_near d t n x p h e l =
      let i = a_text n x h.exact in
      (i, tag_leads_here i h.led (at_text e), places_text (moved_near (references t) l p h.exact (h.near l) x.origin (slanted.text n x e)))

  point_near : (d : ℕ) (t : List Step) (n : ℕ) (x : NodeRecord) (j : ℕ) (p : Placement) → Stands d t (Node n) p → S.node n ≡ some x → j < x.count
      → Fact (point_at j ∷ t) (point x.layer x.node_type (transform_point2 p (x.point j)))
  point_near d t n x j p h e j< l =
      let i = a_point n x j h.exact in
      (i, tag_leads (point_at j ∷ []) i h.led (at_point e j<), places_point (moved_near (references t) l p h.exact (h.near l) (x.point j) (slanted.point n x j e j<)))

  premises : Premises enter S q Stands Fact
  premises = record {
    at_batch = standing.stands_batch member_at S identity q.root Near;
    at_text = standing.stands_text member_at S identity q.root Near;
    at_node = standing.stands_node member_at S identity q.root Near;
    at_reference = standing.stands_reference member_at S identity q.root Near;
    at_member = standing.stands_member member_at S identity q.root Near keeps;
    listed_batch = λ d t n g p h e. tt;
    listed_text = text_near;
    listed_point = point_near;
    listed_proxy = λ t y l b. tt;
    dropped_proxy_lem = λ t y l b. tt;
    skipped_batch_lem = λ d t n g p h e k. tt;
    skipped_member_lem = λ d t n r b x y p h e eb k l z. tt;
    culled_reference_lem = λ t. tt;
    culled_batch_lem = λ t. tt;
    detail_cell_lem = λ t. tt;
  }

  -- of the path, whose references are the tag's
  path_near : (t : List Step) (e : Event) → Fact t e → IsPosition e → references (path_of t) ≤ most_bounded → PlacesItsPath (position_error (references (path_of t))) 53 S q (path_of t) e
  path_near t e f text_position_lem = subst (λ (n : ℕ). n ≤ most_bounded → PlacesItsPath (position_error n) 53 S q (path_of t) e) (sym (references_path t)) f
  path_near t e f point_position_lem = subst (λ (n : ℕ). n ≤ most_bounded → PlacesItsPath (position_error n) 53 S q (path_of t) e) (sym (references_path t)) f

pub by_references_of_rules : ByReferencesOfRules
by_references_of_rules S slanted q cells counts marks =
    let begin = world empty_plan [] counts marks in
    paths_all (λ (x : Path × Event). IsPosition x.1 → references x.0 ≤ most_bounded → PlacesItsPath (position_error (references x.0)) 53 S q x.0 x.1) (plan enter note S cells q [] begin).out
    (all_map _ (λ x f. path_near S q slanted x.0 x.1 f)
    (every_event S q (Stands S q slanted) (Fact S q slanted) (premises S q slanted) (λ u. tt) (record { exact = identity; led = start; near = λ l. identity_near }) cells begin refl))

-- ---- one bound for all paths with at most so many references

module _ (F E k l : ℕ) (fits : F ≤ E * 2 ^ l) where
  coarser_number : {x : Float} {v : Fraction} → NearNumber F (k + l) x v → NearNumber E k x v
  coarser_number h = record { finite = h.finite; near = most_coarse F E k l _ fits h.near }

  coarser : {h : Item} {e : Event} → Places F (k + l) h e → Places E k h e
  coarser (places_text n) = places_text (record { x = coarser_number n.x; y = coarser_number n.y })
  coarser (places_point n) = places_point (record { x = coarser_number n.x; y = coarser_number n.y })

-- from the bounds by the number of references: E / 2 ^ k, if the bound at the most of them is no larger
within : (most E k l : ℕ) → most ≤ most_bounded → position_error most ≤ E * 2 ^ l → (S : Sheet) (q : Query) (trace : Trace)
    → PlacesWithin most_bounded position_error (k + l) S q trace → PlacesWithin most (λ n. E) k S q trace
within most E k l m≤ fits S q trace all =
    all_map _ (λ x near position n≤.
    let h = near position (omega arith) in
    (h.0, h.1, coarser (position_error (references x.0)) E k l (positions_within most E l fits (references x.0) n≤) h.2)) all

-- of the rules, if the constants close
of_rules : (most E k : ℕ) → T (leb most most_bounded) → k + (53 - k) ≡ 53 → T (leb (position_error most) (E * 2 ^ (53 - k))) → WithinOfRules most (λ n. E) k
of_rules most E k m≤ e close S slanted q cells counts marks =
    within most E k (53 - k) (leb→le most most_bounded m≤) (leb→le (position_error most) (E * 2 ^ (53 - k)) close) S q _
    (subst (λ (u : ℕ). PlacesWithin most_bounded position_error u S q (events S cells q counts marks)) (sym e) (by_references_of_rules S slanted q cells counts marks))

pub slanted_of_rules : SlantedOfRules
unfolding axis_bound axis_error shift_bound shift_error position_error
slanted_of_rules = of_rules most_references 1 sixty_fourth tt refl tt

pub sharper : Sharper
unfolding axis_bound axis_error shift_bound shift_error position_error
sharper = record { four = of_rules _ _ _ tt refl tt; five = of_rules _ _ _ tt refl tt }
