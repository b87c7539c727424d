-- PAPER 14, the statement. Document 02: "each record of a text or node point that the planner emits on visiting a path with at most four references is within 1/64 unit, in either
-- coordinate, of the exact placement of that same path (document 01's steps without their rounding), taking the sheet's numbers as exact fractions with a power of two below. Here no
-- record need be whole or exact to count. Nothing is assumed of cos and sin together." Nothing is asked of the query: root, depth, view, zoom and hidden layers are any.
-- Definitions only; proved in proofs/. Assumes nothing.
use Rattle.std.specs.Prelude.{◌≡◌, List, ℕ, ◌≤◌, Float}
use Rattle.geometry.specs.declared.placement.DVec2.{DVec2}
use Rattle.records.specs.declared.PreparedText.{PreparedText}
use Rattle.abstract_sheet.specs.Sheet.{NodeRecord, Sheet, sheet_of}
use Rattle.plan_rules.specs.Event.{Event, text, point}
use Rattle.plan_rules.specs.World.{Query}
use Rattle.plan_rules.specs.Outcome.{outcome_of}
use Rattle.paths.specs.Path.{Path, references, a_text, a_point}
use Rattle.cover.specs.Trace.{Trace, events, All}
use Rattle.cover.specs.Demand3.{IsTape}
use Rattle.fractions.specs.Fraction.{Fraction, ◌⊟◌, AtMost, Finite, value_of}
use Rattle.fractions.specs.Placement.{FractionVector, vector_of, FractionPlacement, move}
use Rattle.fractions.specs.Errors.{position_error, most_bounded}
use Rattle.slanted.specs.Sheet.{SlantedSheet}
use Rattle.slanted.specs.Path.{Item, LeadsTo}

-- ---- near: at most E / 2 ^ k from the exact one

-- a finite number
pub record NearNumber (E k : ℕ) (x : Float) (v : Fraction) : Type 0 where
  pub finite : Finite x
  pub near : AtMost E k (value_of x ⊟ v)

-- "in either coordinate"
pub record NearPosition (E k : ℕ) (v : DVec2) (o : FractionVector) : Type 0 where
  pub x : NearNumber E k v.x o.x
  pub y : NearNumber E k v.y o.y

-- ---- a record of a text or node point

pub data IsPosition : Event → Type 0 where
  text_position_lem : {n : ℕ} {v : DVec2} → IsPosition (text n v)
  point_position_lem : {layer type : ℕ} {v : DVec2} → IsPosition (point layer type v)

-- the record is the item's, with its number (a point's layer and type), near its exact position
pub data Places (E k : ℕ) : Item → Event → Type 0 where
  places_text : {n : ℕ} {x : PreparedText} {T : FractionPlacement} {v : DVec2} → NearPosition E k v (move T (vector_of x.origin)) → Places E k (a_text n x T) (text n v)
  places_point : {n j : ℕ} {x : NodeRecord} {T : FractionPlacement} {v : DVec2} → NearPosition E k v (move T (vector_of (x.point j)))
      → Places E k (a_point n x j T) (point x.layer x.node_type v)

-- "of the exact placement of that same path"
abbrev pub PlacesItsPath : ℕ → ℕ → Sheet → Query → Path → Event → Type 0
PlacesItsPath E k S q p e = (h : Item) × LeadsTo S q.root p h × Places E k h e

-- a path leads to one item at one placement, so that "the exact placement of that same path" is one
abbrev pub OnePlacement : Type 0
OnePlacement = (S : Sheet) (root : ℕ) (p : Path) (h k : Item) → LeadsTo S root p h → LeadsTo S root p k → h ≡ k

-- ---- at paths with at most so many references, within E n / 2 ^ k, n of them being on the path

module _ (most : ℕ) (E : ℕ → ℕ) (k : ℕ) where
  abbrev pub PlacesWithin : Sheet → Query → Trace → Type 0
  PlacesWithin S q trace =
      All (λ (x : Path × Event). IsPosition x.1 → references x.0 ≤ most → PlacesItsPath (E (references x.0)) k S q x.0 x.1) trace

  -- of the rules, whatever stands in the lent counts and marks
  abbrev pub WithinOfRules : Type 0
  WithinOfRules = (S : Sheet) → SlantedSheet S → (q : Query) (cells : ℕ) (counts marks : List ℕ) → PlacesWithin S q (events S cells q counts marks)

  -- of the bytes that an accepted call leaves
  abbrev pub WithinOfCall : Type 0
  WithinOfCall = (sheet : List ℕ) (q : Query) (out counts marks : List ℕ) → SlantedSheet (sheet_of sheet)
      → let o = outcome_of sheet q out counts marks in o.number ≡ 0 → (trace : Trace) × IsTape sheet q o trace out × PlacesWithin (sheet_of sheet) q trace

-- ---- the statements

-- "at most four references"
abbrev pub most_references : ℕ
most_references = 4

-- "1/64 unit" is 1 / 2 ^ 6
abbrev pub sixty_fourth : ℕ
sixty_fourth = 6

abbrev pub SlantedOfRules : Type 0
SlantedOfRules = WithinOfRules most_references (λ n. 1) sixty_fourth

abbrev pub Slanted : Type 0
Slanted = WithinOfCall most_references (λ n. 1) sixty_fourth

-- ---- more than the paper asks

-- for each number of references up to eight, the bound of the recurrence, in units of 2 ^ -53
abbrev pub ByReferencesOfRules : Type 0
ByReferencesOfRules = WithinOfRules most_bounded position_error 53

abbrev pub ByReferences : Type 0
ByReferences = WithinOfCall most_bounded position_error 53

-- so four references are within 1/128, and five within 1/64 still
pub record Sharper : Type 0 where
  pub four : WithinOfRules 4 (λ n. 1) 7
  pub five : WithinOfRules 5 (λ n. 1) 6
