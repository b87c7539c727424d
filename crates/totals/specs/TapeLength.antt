-- HOW LONG A TAPE CAN BE, as statements: the limits of document 01 bound what a plan lists, so one length of output is enough for every call.
-- Definitions only; rests on the outcome of a call. Proofs: `TapeLength` in proofs/.
use Rattle.std.specs.Prelude.{◌≡◌, List, ℕ, ◌≤◌, length}
use Rattle.check_sheet.specs.declared.Counts.{Counts}
use Rattle.std.specs.Prelude.{Ok}
use Rattle.check_sheet.specs.Check.{check_sheet}
use Rattle.plan_rules.specs.Limits.{max_scene_objects}
use Rattle.plan_rules.specs.World.{Query}
use Rattle.plan_rules.specs.Questions.{query_refusal}
use Rattle.plan_rules.specs.Outcome.{outcome_of}

-- 20,000 batches of 58 bytes, 100,000 proxies of 42, and the totals of 62
abbrev pub most_tape : ℕ
most_tape = 5360062

-- No outcome tells a longer tape, an accepted one or one that was refused for want of room.
abbrev pub TapeAtMost : Type 0
TapeAtMost = (s : List ℕ) (q : Query) (o k m : List ℕ) → q.object_limit ≤ max_scene_objects → (outcome_of s q o k m).tape_length ≤ most_tape

-- So with an output of this length question 12 is answered yes wherever questions 1 to 11 are.
abbrev pub EnoughOutput : Type 0
EnoughOutput = (s : List ℕ) (counts : Counts) (q : Query) (o k m : List ℕ) → q.object_limit ≤ max_scene_objects → most_tape ≤ length o
    → check_sheet s ≡ Ok counts → query_refusal q.view q.zoom q.depth counts.cells (length k) (length m) ≡ 0 → (outcome_of s q o k m).number ≡ 0
