-- WHAT HAPPENED in a plan: every event of the rules, with the path at which it happened, the newest first.
-- "Demand 3 reads the plan that demand 2 defines": these are the events of the same rules, run with the path as the tag; their records are the tape.
-- Definitions only; rests on the rules. Assumes nothing.
use Rattle.std.specs.Prelude.{List, [], ◌∷◌, ◌++◌, ℕ}
use Rattle.geometry.specs.declared.placement.DVec2.{DVec2}
use Rattle.geometry.specs.declared.placement.Placement.{Placement}
use Rattle.abstract_sheet.specs.Sheet.{Sheet}
use Rattle.plan_rules.specs.Event.{Event, batch, text, point, Step, empty_plan}
use Rattle.plan_rules.specs.World.{Query, world}
use Rattle.plan_rules.specs.Plan.{plan}
use Rattle.plan_rules.specs.Tape.{note}
use Rattle.cover.specs.Path.{Path}

abbrev pub Trace : Type 0
Trace = List (Path × Event)

-- ---- the events of a plan

-- A visit's tag is the way from the root, the newest step first.
abbrev pub enter : Step → List Step → List Step
enter s way = s ∷ way

-- the path that goes this way
abbrev pub path_of : List Step → Path
path_of [] = []
path_of (s ∷ way) = path_of way ++ s ∷ []

abbrev pub with_paths : List (List Step × Event) → Trace
with_paths [] = []
with_paths (x ∷ l) = (path_of x.0, x.1) ∷ with_paths l

-- the events of the plan of a sheet with so many cells, whatever stands in the lent counts and marks
abbrev pub events : Sheet → ℕ → Query → List ℕ → List ℕ → Trace
events S cells q counts marks = with_paths (plan enter note S cells q [] (world empty_plan [] counts marks)).out

-- ---- every event, some event

pub data All {A : Type 0} (Q : A → Type 0) : List A → Type 0 where
  none_left : All Q []
  and_then : {a : A} {l : List A} → Q a → All Q l → All Q (a ∷ l)

pub data Any {A : Type 0} (Q : A → Type 0) : List A → Type 0 where
  here : {a : A} {l : List A} → Q a → Any Q (a ∷ l)
  before : {a : A} {l : List A} → Any Q l → Any Q (a ∷ l)

-- ---- records

-- "every record of kinds 11 to 13"
pub data IsRecord : Event → Type 0 where
  batch_record : {n : ℕ} {p : Placement} → IsRecord (batch n p)
  text_record : {n : ℕ} {v : DVec2} → IsRecord (text n v)
  point_record : {layer type : ℕ} {v : DVec2} → IsRecord (point layer type v)
