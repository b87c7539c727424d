-- What an answer to a `read` or a `write` means, and what a call that stands on it promises.
-- Definitions only. Assumes nothing.
use Rattle.std.specs.Prelude.{◌≡◌, List, ℕ, ◌+◌, ◌≤◌, ◌<◌, length, take, Result, Ok, Err, IfSome, if◌then◌else◌, ◌==◌}
use Rattle.std.specs.declared.option.Option.{Option}
use Rattle.std.specs.IoError.{error_kind}
use Rattle.std.specs.declared.io.Error.{Error}
use Rattle.std.specs.declared.io.ErrorKind.{ErrorKind}
use Rattle.std.specs.declared.io.ErrorKind.TheVariants as kind
use Rattle.streams.specs.declared.moved.Moved.{Moved}
use Rattle.streams.specs.declared.moved.Moved.TheVariants.{Bytes, Nothing, Interrupted, Failed}
use Rattle.streams.specs.declared.input.ReadError.{ReadError}
use Rattle.streams.specs.declared.input.ReadError.TheVariants.{TooLong, Unreadable}

-- an error of the kind: interrupted, or failed
abbrev pub unmoved_of_kind : ErrorKind → Moved
unmoved_of_kind kind.Interrupted = Interrupted
unmoved_of_kind _ = Failed

-- an error: interrupted, or failed
abbrev pub unmoved_of : Error → Moved
unmoved_of error = unmoved_of_kind (error_kind error)

-- an answer: so many bytes, none, or an error
abbrev pub moved_of : Result ℕ Error → Moved
moved_of (Ok n) = if n == 0 then Nothing else Bytes n
moved_of (Err error) = unmoved_of error

-- what was moved stands behind `done` bytes, within `size`
abbrev pub Moves : ℕ → ℕ → Moved → Type 0
Moves done size (Bytes n) = (0 < n) × (done + n ≤ size)
Moves done size Nothing = Unit {0}
Moves done size Interrupted = Unit {0}
Moves done size Failed = Unit {0}

-- the input after so many bytes, by the answer that ended its reading: only the end makes it whole
abbrev pub input_of : Moved → ℕ → Result ℕ ReadError
input_of Nothing done = Ok done
input_of (Bytes n) done = Err Unreadable
input_of Interrupted done = Err Unreadable
input_of Failed done = Err Unreadable

-- a whole input lies within the buffer, and leaves room: its end was seen
abbrev pub Within : Result ℕ ReadError → List ℕ → Type 0
Within (Ok size) buffer = size < length buffer
Within (Err _) buffer = Unit {0}

-- where what a reader has left is known: a whole input is all of it, and one that is too long begins with what fills the buffer
abbrev pub Reads : Option (List ℕ) → Result ℕ ReadError → List ℕ → Type 0
Reads known (Ok size) buffer = IfSome known (λ xs. take size buffer ≡ xs)
Reads known (Err TooLong) buffer = IfSome known (λ xs. take (length buffer) xs ≡ buffer)
Reads known (Err Unreadable) buffer = Unit {0}
