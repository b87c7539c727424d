-- What an answer means, read backwards; what a loop that moves bytes has moved; and where an input that was read lies.
-- Assumes nothing.
use Rattle.std.proofs.Common.{◌≡◌, sym, ap, subst, ℕ, ◌+◌, ◌≤◌, ◌<◌, List, length, take, drop, arith}
use Rattle.std.proofs.Math.Seq.{take-add}
use Rattle.std.proofs.KnownBytes.{Appends-trans, Consumes-trans}
use Rattle.std.specs.Prelude.{Result, Ok, Err, if◌then◌else◌, Bool, true, false, nat_eq}
use Rattle.std.specs.declared.option.Option.{Option}
use Rattle.std.specs.IoError.{error_kind}
use Rattle.std.specs.declared.io.Error.{Error}
use Rattle.std.specs.declared.io.ErrorKind.{ErrorKind}
use Rattle.std.specs.declared.io.ErrorKind.TheVariants as kind
use Rattle.std.specs.Io.KnownBytes.{Appends, Consumes, WriteAppends, ReadConsumes}
use Rattle.streams.specs.declared.moved.Moved.TheVariants.{Bytes, Nothing}
use Rattle.streams.specs.declared.input.ReadError.{ReadError}
use Rattle.streams.specs.Moving.{unmoved_of_kind, moved_of, Moves, Within}

-- no error moves bytes
no_bytes : (k : ErrorKind) (n : ℕ) → Bytes n ≡ unmoved_of_kind k → ⊥
no_bytes kind.Interrupted n h = cc
no_bytes _ n h = cc

-- an answer that moved bytes gave their count
pub count_of : (got : Result ℕ Error) (n : ℕ) → Bytes n ≡ moved_of got → got ≡ Ok n
count_of (Ok m) n h = ap Ok (by (nat_eq m 0) h)
  where
    by : (b : Bool) → Bytes n ≡ (if b then Nothing else Bytes m) → m ≡ n
    by true e = cc
    by false e = cc
count_of (Err error) n h = absurd (no_bytes (error_kind error) n h)

-- and they stand within the room
pub stays_within : (got : Result ℕ Error) (done size n : ℕ) → Bytes n ≡ moved_of got → Moves done size (moved_of got) → done + n ≤ size
stays_within got done size n is moves = (subst (Moves done size) (sym is) moves).1

-- what stood behind `done` bytes is appended to them
pub appends_more : (old mid new : Option (List ℕ)) (bytes : List ℕ) (got : Result ℕ Error) (done n : ℕ) → Bytes n ≡ moved_of got → Appends old mid (take done bytes) → WriteAppends mid new got (drop done bytes) → Appends old new (take (done + n) bytes)
appends_more old mid new bytes got done n is before more =
    let now : Appends mid new (take n (drop done bytes)) = subst (λ (r : Result ℕ Error). WriteAppends mid new r (drop done bytes)) (count_of got n is) more in
    rw take-add (Appends-trans _ _ _ _ _ before now)

-- and what a read consumed stands behind what was consumed before
pub consumes_more : (old mid new : Option (List ℕ)) (before after : List ℕ) (got : Result ℕ Error) (done n : ℕ) → Bytes n ≡ moved_of got → take done after ≡ take done before → Consumes old mid (take done before) → ReadConsumes mid new got (drop done after) → Consumes old new (take (done + n) after)
consumes_more old mid new before after got done n is same was more =
    let now : Consumes mid new (take n (drop done after)) = (subst (λ (r : Result ℕ Error). ReadConsumes mid new r (drop done after)) (count_of got n is) more).0 in
    let first : Consumes old mid (take done after) = subst (Consumes old mid) (sym same) was in
    rw take-add (Consumes-trans _ _ _ _ _ first now)

-- a whole input lies within the buffer
pub whole_within : {r : Result ℕ ReadError} {size : ℕ} (buffer : List ℕ) → Within r buffer → r ≡ Ok size → size ≤ length buffer
whole_within {r} {size} buffer within is = let h : size < length buffer = subst (λ (x : Result ℕ ReadError). Within x buffer) is within in omega (arith, h)
