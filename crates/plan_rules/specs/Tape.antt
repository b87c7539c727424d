-- The tape: the two ends of the rules, bytes on a lent output, and events in a list.
-- Document 01, "Shapes, texts, points and proxies: the tape": "Records as above, in the order in which `Planner` emits them".
-- Definitions only; rests on the fields' definitions and `Event`.
use Rattle.std.specs.Prelude.{◌≡◌, cond, List, [], ◌∷◌, ◌++◌, ℕ, ◌+◌, length, leb}
use Rattle.std.proofs.lemmas.List.Edits.{sets}
use Rattle.fields.specs.Field.{Field, widths, record_bytes}
use Rattle.plan_rules.specs.Event.{Event, fields_of, encode, Step, ◌⊞◌}

-- ---- the code's end: no tag, and bytes

abbrev pub no_tag : Step → Unit {0} → Unit {0}
no_tag s t = tt

-- the record's bytes from `at` on, if the whole record fits
unfoldable pub put_record : List ℕ → ℕ → List Field → List ℕ
put_record o at [] = o
put_record o at (f ∷ fs) = cond (leb (at + widths (f ∷ fs)) (length o)) (sets o at (record_bytes (f ∷ fs))) o

unfoldable pub on_tape : Unit {0} → Event → ℕ → List ℕ → List ℕ
on_tape t e at o = put_record o at (fields_of e)

-- What a writer of a record leaves: the record if it fits, and the tape's new end, which grows all the same.
abbrev pub Written : List Field → List ℕ → ℕ → List ℕ → ℕ → Type 0
Written fs o at o' end = (o' ≡ put_record o at fs) × (end ≡ at ⊞ widths fs)

-- ---- the proofs' end: every event with its tag, the newest first

abbrev pub note : {P : Type 0} → P → Event → ℕ → List (P × Event) → List (P × Event)
note t e at l = (t, e) ∷ l

-- the tape that the events make
abbrev pub tape : {P : Type 0} → List (P × Event) → List ℕ
tape [] = []
tape (x ∷ l) = tape l ++ encode x.1
