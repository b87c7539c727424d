-- Laws of `uint_bytes` and of fields that are written one after the other. A write is `lib.Seq.sets`: bytes past the end are not written.
-- A record is one equation: `record_written` turns the chain of its fields' writes into `sets d at (record_bytes fs)`.
-- Assumes nothing.
use mathlib.Core.Path.{◌≡◌, refl, sym, ap, ap₂, ◌∙◌}
use Prim.Native.Nat.{ℕ, zero, suc, ◌+◌, ◌*◌, ◌/◌, ◌%◌, ◌^◌, ◌≤◌, ◌<◌}
use native.Mathlib.Nat.{suc-add, zero-add, add-zero, pow-suc, mul_comm, div-div-eq-div-mul, div-one, mod-lt, zero-lt-suc}
use native.Mathlib.Omega.{arith}
use mathlib.Core.List.{List, [], ◌∷◌, ◌++◌}
use lib.ListN.{length, set, length-set, length-append}
use lib.Seq.{sets, set_out}
use lib.Arith.{mod-mul, digits_div, digits_mod}
use lib.Dec.{lit<}
use Rattle.fields.specs.Field.{uint_bytes, f64_bytes, Field, uint, f64, width, field_bytes, widths, record_bytes}

-- ---- the bytes of a number

pub length-uint_bytes : (k n : ℕ) → length (uint_bytes k n) ≡ k
unfolding uint_bytes
length-uint_bytes zero n = refl
length-uint_bytes (suc k) n = ap suc (length-uint_bytes k (n / 256))

pub uint_bytes-add : (j k n : ℕ) → uint_bytes (j + k) n ≡ uint_bytes j n ++ uint_bytes k (n / 256 ^ j)
unfolding uint_bytes
uint_bytes-add zero k n = ap₂ uint_bytes (zero-add k) (sym (div-one n))
uint_bytes-add (suc j) k n =
    ap (λ (m : ℕ). uint_bytes m n) (suc-add j k)
    ∙ ap (λ (l : List ℕ). n % 256 ∷ l)
    (uint_bytes-add j k (n / 256)
    ∙ ap (λ (m : ℕ). uint_bytes j (n / 256) ++ uint_bytes k m)
    (div-div-eq-div-mul n 256 (256 ^ j) ∙ ap (λ (m : ℕ). n / m) (mul_comm 256 (256 ^ j) ∙ sym (pow-suc 256 j))))

pub pow256_pos : (j : ℕ) → 0 < 256 ^ j
pow256_pos zero = lit< tt
pow256_pos (suc j) = rw (pow-suc 256 j) (omega (arith, pow256_pos j))

-- n % 256 ^ (j + 1), by its last byte
pub mod_pow256_suc : (j n : ℕ) → n % 256 ^ suc j ≡ (n / 256 % 256 ^ j) * 256 + n % 256
mod_pow256_suc j n = ap (λ (m : ℕ). n % m) (pow-suc 256 j) ∙ mod-mul n (pow256_pos j) (lit< tt)

-- the upper bytes do not matter
pub uint_bytes_mod : (j n : ℕ) → uint_bytes j (n % 256 ^ j) ≡ uint_bytes j n
unfolding uint_bytes
uint_bytes_mod zero n = refl
uint_bytes_mod (suc j) n =
    let e : n % 256 ^ suc j ≡ (n / 256 % 256 ^ j) * 256 + n % 256 = mod_pow256_suc j n in
    ap₂ (λ (a b : ℕ). a ∷ uint_bytes j b)
    (ap (λ (m : ℕ). m % 256) e ∙ digits_mod (n / 256 % 256 ^ j) (mod-lt n (zero-lt-suc 255)))
    (ap (λ (m : ℕ). m / 256) e ∙ digits_div (n / 256 % 256 ^ j) (mod-lt n (zero-lt-suc 255)))
    ∙ ap (λ (l : List ℕ). n % 256 ∷ l) (uint_bytes_mod j (n / 256))

-- ---- writes one after the other

pub sets-append : (d xs ys : List ℕ) (at : ℕ) → sets d at (xs ++ ys) ≡ sets (sets d at xs) (at + length xs) ys
sets-append d [] ys at = ap (λ (m : ℕ). sets d m ys) (sym (add-zero at))
sets-append d (x ∷ xs) ys at =
    sets-append (set d at x) xs ys (suc at)
    ∙ ap (λ (m : ℕ). sets (sets (set d at x) (suc at) xs) m ys) (omega arith)

-- a field of j + k bytes is written as its lower j bytes and then its upper k
pub sets_uint_add : (j k n : ℕ) (d : List ℕ) (at : ℕ) → sets (sets d at (uint_bytes j (n % 256 ^ j))) (at + j) (uint_bytes k (n / 256 ^ j)) ≡ sets d at (uint_bytes (j + k) n)
sets_uint_add j k n d at =
    rw (uint_bytes_mod j n, uint_bytes-add j k n, sets-append d (uint_bytes j n) (uint_bytes k (n / 256 ^ j)) at, length-uint_bytes j n)

-- nothing is written past the end
pub sets_past_end : (d vs : List ℕ) (at : ℕ) → length d ≤ at → sets d at vs ≡ d
sets_past_end d [] at h = refl
sets_past_end d (v ∷ vs) at h =
    let l : length (set d at v) ≡ length d = length-set d at v in
    sets_past_end (set d at v) vs (suc at) (omega arith) ∙ set_out d at v h

-- ---- a record of fields

pub length-field_bytes : (f : Field) → length (field_bytes f) ≡ width f
unfolding f64_bytes
length-field_bytes (uint k n) = length-uint_bytes k n
length-field_bytes (f64 x) = length-uint_bytes 8 _

pub length-record_bytes : (fs : List Field) → length (record_bytes fs) ≡ widths fs
unfolding record_bytes
length-record_bytes [] = refl
length-record_bytes (f ∷ fs) =
    length-append (field_bytes f) (record_bytes fs) ∙ ap₂ (λ (a b : ℕ). a + b) (length-field_bytes f) (length-record_bytes fs)

-- at + off, which is `at` itself where off is 0
abbrev pub place : ℕ → ℕ → ℕ
place at zero = at
place at (suc off) = at + suc off

place_add : (at off : ℕ) → place at off ≡ at + off
place_add at zero = sym (add-zero at)
place_add at (suc off) = refl

-- Puts at off d fs r: the fields fs are written into d one after the other, from at + off on, and r is what that leaves.
-- `off` is a number that is written out, so that each write's place is the code's own: `at`, `at + 4`, `at + 6`, ..
infixr 20 ◌⨾◌
pub data Puts (at : ℕ) : ℕ → List ℕ → List Field → List ℕ → Type 0 where
  done : {off : ℕ} {d : List ℕ} → Puts at off d [] d
  ◌⨾◌ : {off : ℕ} {d e r : List ℕ} {f : Field} {fs : List Field} → e ≡ sets d (place at off) (field_bytes f) → Puts at (off + width f) e fs r → Puts at off d (f ∷ fs) r

puts_from : {at off : ℕ} {d r : List ℕ} {fs : List Field} → Puts at off d fs r → r ≡ sets d (at + off) (record_bytes fs)
unfolding record_bytes
puts_from done = refl
puts_from {at} (◌⨾◌ {off} {d} {e} {r} {f} {fs} w p) =
    let next : at + (off + width f) ≡ at + off + length (field_bytes f) = omega (arith, length-field_bytes f) in
    let here : e ≡ sets d (at + off) (field_bytes f) = w ∙ ap (λ (m : ℕ). sets d m (field_bytes f)) (place_add at off) in
    puts_from p
    ∙ ap₂ (λ (l : List ℕ) (m : ℕ). sets l m (record_bytes fs)) here next
    ∙ sym (sets-append d (field_bytes f) (record_bytes fs) (at + off))

-- a record whose fields were written one after the other was written
pub record_written : {at : ℕ} {d r : List ℕ} {fs : List Field} → Puts at 0 d fs r → r ≡ sets d at (record_bytes fs)
record_written {at} {d} {r} {fs} p = puts_from p ∙ ap (λ (m : ℕ). sets d m (record_bytes fs)) (add-zero at)
