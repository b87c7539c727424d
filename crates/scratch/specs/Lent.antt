-- What no call changes of the scratch that it is handed: which counts and marks are lent, and how many.
-- Definitions only. Assumes nothing.
use Rattle.std.specs.Prelude.{◌≡◌, length}
use Rattle.scratch.specs.declared.memory.Scratch.{Scratch}

abbrev pub StaysLent : Scratch → Scratch → Type 0
StaysLent before after =
    (after.counts.ghost_name ≡ before.counts.ghost_name) × (after.marks.ghost_name ≡ before.marks.ghost_name)
    × (length after.counts.now ≡ length before.counts.now) × (length after.marks.now ≡ length before.marks.now)

-- the same where the counts stay as well
abbrev pub MarksAlone : Scratch → Scratch → Type 0
MarksAlone before after = StaysLent before after × (after.counts.now ≡ before.counts.now)
