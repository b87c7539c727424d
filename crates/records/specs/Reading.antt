-- What holds of the reader of each record, whichever it is.
-- Definitions only. Assumes nothing.
use Rattle.std.specs.Prelude.{◌≡◌, ℕ, ◌+◌, List}
use Rattle.fields.specs.Field.{uint_at}

-- bytes that read as a sheet does from an offset on
abbrev pub ReadsAs : List ℕ → List ℕ → ℕ → Type 0
ReadsAs t s at = (j k : ℕ) → uint_at k t j ≡ uint_at k s (at + j)

-- what is read at the start of such bytes is what stands in the sheet
abbrev pub ReadsSame : {A : Type 0} → (List ℕ → ℕ → A) → List ℕ → ℕ → Type 0
ReadsSame read s at = (t : List ℕ) → ReadsAs t s at → read t 0 ≡ read s at
