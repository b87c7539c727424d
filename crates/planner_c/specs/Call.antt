-- Calls through the C interface in the rules' terms: numbers and floats stand where the Rattle functions have structs and enums.
-- Definitions only. Assumes nothing.
use Rattle.std.specs.Prelude.{List, ℕ, Float}
use Rattle.std.specs.Borrow.{MutBor}
use Rattle.open_sheet.specs.Opening.{Opening}
use Rattle.plan_rules.specs.declared.SceneOptions.{SceneOptions}
use Rattle.plan_rules.specs.Outcome.{Outcome}

-- "A query: root cell 4, depth 4, view 4 f, zoom f", field by field
abbrev pub options_from : ℕ → ℕ → Float → Float → Float → Float → Float → SceneOptions
options_from root depth minX minY maxX maxY zoom =
    record { root = root; depth = depth; view = record { min_x = minX; min_y = minY; max_x = maxX; max_y = maxY }; zoom = zoom }

-- a plan: the number that the call returns, the offset and the tape's length that it stores, and the lent places after it
abbrev pub returned : ℕ → MutBor ℕ → MutBor ℕ → MutBor (List ℕ) → MutBor (List ℕ) → MutBor (List ℕ) → Outcome
returned number offset length out counts marks =
    record { number = number; offset = offset.now; tape_length = length.now; out = out.now; counts = counts.now; marks = marks.now }

-- an opening: the number that the call returns, the offset and the number of places that it stores, and the lent list after it
abbrev pub opened : ℕ → MutBor ℕ → MutBor ℕ → MutBor (List ℕ) → Opening
opened number offset places finder = record { number = number; offset = offset.now; places = places.now; finder = finder.now }
