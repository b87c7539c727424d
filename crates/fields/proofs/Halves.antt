-- A field of 2 j bytes from its halves of j bytes: what every wider reader and writer of the crate comes down to, once for all widths.
-- Assumes nothing.
use mathlib.Core.Path.{◌≡◌, sym, ap, ap₂, ◌∙◌}
use Prim.Native.Nat.{ℕ, ◌+◌, ◌*◌, ◌/◌, ◌%◌, ◌^◌, ◌≤◌}
use mathlib.Core.List.{List}
use lib.ListN.{length}
use lib.Seq.{sets}
use Rattle.fields.specs.Field.{uint_at, uint_bytes}
use Rattle.fields.proofs.Reading.{uint_at-add}
use Rattle.fields.proofs.Writing.{sets_uint_add, sets_past_end}

pub read_halves : (j : ℕ) (s : List ℕ) (at : ℕ) {low high : ℕ} → low ≡ uint_at j s at → high ≡ uint_at j s (at + j) → low + 256 ^ j * high ≡ uint_at (j + j) s at
read_halves j s at l h = ap₂ (λ (a b : ℕ). a + 256 ^ j * b) l h ∙ sym (uint_at-add j j s at)

pub write_halves : (j n : ℕ) (d : List ℕ) (at : ℕ) {e r : List ℕ} → e ≡ sets d at (uint_bytes j (n % 256 ^ j)) → r ≡ sets e (at + j) (uint_bytes j (n / 256 ^ j)) → r ≡ sets d at (uint_bytes (j + j) n)
write_halves j n d at l h =
    h ∙ ap (λ (e : List ℕ). sets e (at + j) (uint_bytes j (n / 256 ^ j))) l ∙ sets_uint_add j j n d at

-- a write past the end leaves the list as it was
pub write_past_end : (k n : ℕ) (d : List ℕ) (at : ℕ) → length d ≤ at → d ≡ sets d at (uint_bytes k n)
write_past_end k n d at h = sym (sets_past_end d (uint_bytes k n) at h)
