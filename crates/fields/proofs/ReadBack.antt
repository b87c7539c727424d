-- What is read from a list into which bytes were written: at their place what was written, elsewhere what stood there before.
-- Assumes nothing.
use mathlib.Core.Path.{◌≡◌, refl, sym, ap, ◌∙◌}
use mathlib.Core.Logic.{◌⊎◌, inl, inr}
use Prim.Native.Nat.{ℕ, zero, suc, ◌+◌, ◌/◌, ◌%◌, ◌^◌, ◌≤◌, ◌<◌}
use native.Mathlib.Nat.{zero-add, add-zero, add-suc, suc-add, mod-eq_of_lt, le_of_suc-le-suc, not-suc-le-zero}
use native.Mathlib.Omega.{arith}
use mathlib.Core.List.{List, [], ◌∷◌, ◌++◌}
use lib.ListN.{length, get_or, set, length-set}
use lib.Seq.{sets, get_or-set_same, get_or-set_other, get_or-append-add, get_or-take, take_at}
use lib.Dec.{T}
use lib.Ieee.{Float, binary64, fits, of_bits, to_bits}
use lib.Ieee.Bits.{of_bits-to_bits, to_bits-lt}
use Rattle.fields.specs.Field.{uint_at, uint_bytes, f64_at, f64_bytes}
use Rattle.fields.proofs.Reading.{uint_at_same}
use Rattle.fields.proofs.Writing.{length-uint_bytes, mod_pow256_suc}

-- ---- one byte

-- the n places from i on lie before or after the m places from j on
abbrev pub Apart : ℕ → ℕ → ℕ → ℕ → Type 0
Apart i n j m = (i + n ≤ j) ⊎ (j + m ≤ i)

pub get_or-sets_apart : (d vs : List ℕ) (at i : ℕ) → Apart i 1 at (length vs) → get_or (sets d at vs) i 0 ≡ get_or d i 0
get_or-sets_apart d [] at i a = refl
get_or-sets_apart d (v ∷ vs) at i (inl b) =
    get_or-sets_apart (set d at v) vs (suc at) i (inl (omega arith)) ∙ get_or-set_other d at i v 0 (λ e. omega arith)
get_or-sets_apart d (v ∷ vs) at i (inr b) =
    get_or-sets_apart (set d at v) vs (suc at) i (inr (omega arith)) ∙ get_or-set_other d at i v 0 (λ e. omega arith)

pub get_or-sets_same : (d vs : List ℕ) (at i : ℕ) → i < length vs → at + length vs ≤ length d → get_or (sets d at vs) (at + i) 0 ≡ get_or vs i 0
get_or-sets_same d [] at i b h = absurd (not-suc-le-zero b)
get_or-sets_same d (v ∷ vs) at zero b h =
    ap (λ (m : ℕ). get_or (sets (set d at v) (suc at) vs) m 0) (add-zero at)
    ∙ get_or-sets_apart (set d at v) vs (suc at) at (inl (omega arith))
    ∙ get_or-set_same d at v 0 (omega arith)
get_or-sets_same d (v ∷ vs) at (suc i) b h =
    let l : length (set d at v) ≡ length d = length-set d at v in
    let e : at + suc i ≡ suc at + i = add-suc at i ∙ sym (suc-add at i) in
    ap (λ (m : ℕ). get_or (sets (set d at v) (suc at) vs) m 0) e
    ∙ get_or-sets_same (set d at v) vs (suc at) i (le_of_suc-le-suc b) (omega arith)

-- ---- a field that a write does not touch

pub uint_at_untouched : (k : ℕ) (d vs : List ℕ) (at place : ℕ) → Apart place k at (length vs) → uint_at k (sets d at vs) place ≡ uint_at k d place
uint_at_untouched k d vs at place (inl a) =
    uint_at_same k (sets d at vs) d place place (λ i b. get_or-sets_apart d vs at (place + i) (inl (omega arith)))
uint_at_untouched k d vs at place (inr a) =
    uint_at_same k (sets d at vs) d place place (λ i b. get_or-sets_apart d vs at (place + i) (inr (omega arith)))

-- ---- a field where it was written

pub uint_at-uint_bytes : (k n : ℕ) → uint_at k (uint_bytes k n) 0 ≡ n % 256 ^ k
unfolding uint_at uint_bytes
uint_at-uint_bytes zero n = omega arith
uint_at-uint_bytes (suc k) n =
    let rest : uint_at k (n % 256 ∷ uint_bytes k (n / 256)) 1 ≡ n / 256 % 256 ^ k =
    uint_at_same k (n % 256 ∷ uint_bytes k (n / 256)) (uint_bytes k (n / 256)) 1 0
    (λ i b. ap (λ (m : ℕ). get_or (n % 256 ∷ uint_bytes k (n / 256)) m 0) (suc-add 0 i))
    ∙ uint_at-uint_bytes k (n / 256) in
    omega (arith, rest, mod_pow256_suc k n)

pub uint_at_written : (k n : ℕ) (d : List ℕ) (at : ℕ) → at + k ≤ length d → uint_at k (sets d at (uint_bytes k n)) at ≡ n % 256 ^ k
uint_at_written k n d at h =
    let l : length (uint_bytes k n) ≡ k = length-uint_bytes k n in
    uint_at_same k (sets d at (uint_bytes k n)) (uint_bytes k n) at 0
    (λ i b. get_or-sets_same d (uint_bytes k n) at i (omega arith) (omega arith) ∙ ap (λ (m : ℕ). get_or (uint_bytes k n) m 0) (sym (zero-add i)))
    ∙ uint_at-uint_bytes k n

-- a field that stands between other bytes
pub uint_at_appended : (k n : ℕ) (p r : List ℕ) → uint_at k (p ++ (uint_bytes k n ++ r)) (length p) ≡ n % 256 ^ k
uint_at_appended k n p r =
    let u = uint_bytes k n in
    uint_at_same k (p ++ (u ++ r)) u (length p) 0
    (λ i b. get_or-append-add p (u ++ r) i 0
    ∙ sym (get_or-take k (u ++ r) i 0 b)
    ∙ ap (λ (l : List ℕ). get_or l i 0) (take_at u r k (length-uint_bytes k n))
    ∙ ap (λ (m : ℕ). get_or u m 0) (sym (zero-add i)))
    ∙ uint_at-uint_bytes k n

-- every float that an f64 holds, `nan` among them
pub f64_at_written : (x : Float) (d : List ℕ) (at : ℕ) → T (fits binary64 x) → at + 8 ≤ length d → f64_at (sets d at (f64_bytes x)) at ≡ x
unfolding f64_at f64_bytes
f64_at_written x d at f h =
    ap (of_bits binary64) (uint_at_written 8 (to_bits binary64 x) d at h ∙ mod-eq_of_lt (to_bits-lt binary64 x f))
    ∙ of_bits-to_bits binary64 x f
