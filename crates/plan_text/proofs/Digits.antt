-- Digits: how many a number has, and how they are written from the last to the first.
-- Assumes nothing.
use mathlib.Core.Path.{◌≡◌, refl, sym, ap, ◌∙◌}
use mathlib.Core.List.{List, [], ◌∷◌, ◌++◌, append-nil}
use Prim.Native.Nat.{ℕ, zero, suc, ◌+◌, ◌-◌, ◌/◌, ◌%◌, ◌^◌, ◌*◌, ◌≤◌, ◌<◌}
use native.Mathlib.Nat.{pow-suc, not-suc-le-zero, zero-add}
use native.Mathlib.Omega.{arith}
use lib.ListN.{length, drop, set, length-append}
use lib.Seq.{sets, sets-eq, set_comm}
use Rattle.std.proofs.lemmas.List.{drop_all}
use lib.Dec.{lit≤}
use borrow.Author.Tests.{lt-ltb, le-ltb}
use Rattle.fields.proofs.Writing.{sets-append}
use Rattle.walk.proofs.Offsets.{by_order}
use Rattle.plan_text.specs.Text.{digit, digits, decimal_size_in, decimal_size}

-- ---- how many digits

size_few : (f n : ℕ) → n < 10 → decimal_size_in f n ≡ 1
unfolding decimal_size_in
size_few zero n h = refl
size_few (suc f) n h = rw (lt-ltb _ _ h)

size_zero : (n : ℕ) → decimal_size_in zero n ≡ 1
unfolding decimal_size_in
size_zero n = refl

size_many : (f n : ℕ) → 10 ≤ n → decimal_size_in (suc f) n ≡ suc (decimal_size_in f (n / 10))
unfolding decimal_size_in
size_many f n h = rw (le-ltb _ _ h)

tenth : (k n : ℕ) → n < 10 ^ suc (suc k) → n / 10 < 10 ^ suc k
tenth k n h = let p : n < 10 ^ suc k * 10 = rw (pow-suc 10 (suc k)) at h in omega arith

-- a number has as many digits, however many more are looked for than it has
enough_steps : (f g n : ℕ) → n < 10 ^ suc f → n < 10 ^ suc g → decimal_size_in f n ≡ decimal_size_in g n
enough_steps zero g n hf hg = size_few zero n hf ∙ sym (size_few g n hf)
enough_steps (suc f) zero n hf hg = size_few (suc f) n hg ∙ sym (size_few zero n hg)
enough_steps (suc f) (suc g) n hf hg =
    by_order 10 n
    (λ h. size_many f n h ∙ ap suc (enough_steps f g (n / 10) (tenth f n hf) (tenth g n hg)) ∙ sym (size_many g n h))
    (λ h. size_few (suc f) n h ∙ sym (size_few (suc g) n h))

size_most : (f n : ℕ) → decimal_size_in f n ≤ suc f
size_most zero n = omega (arith, size_zero n)
size_most (suc f) n =
    by_order 10 n
    (λ h. omega (arith, size_many f n h, size_most f (n / 10)))
    (λ h. omega (arith, size_few (suc f) n h))

-- ---- numbers of 64 bits

below_20_digits : (n : ℕ) → n < 18446744073709551616 → n < 10 ^ 20
below_20_digits n h = let p : 18446744073709551616 ≤ 10 ^ 20 = lit≤ tt in omega (arith, p)

pub decimal_size_few : (n : ℕ) → n < 10 → decimal_size n ≡ 1
unfolding decimal_size
decimal_size_few n h = size_few 19 n h

pub decimal_size_many : (n : ℕ) → n < 18446744073709551616 → 10 ≤ n → decimal_size n ≡ suc (decimal_size (n / 10))
unfolding decimal_size
decimal_size_many n h m =
    let p : 18446744073709551616 ≤ 10 ^ 19 * 10 = lit≤ tt in
    size_many 18 n m ∙ ap suc (enough_steps 18 19 (n / 10) (omega (arith, p)) (below_20_digits (n / 10) (omega arith)))

pub decimal_size_most : (n : ℕ) → decimal_size n ≤ 20
unfolding decimal_size
decimal_size_most n = size_most 19 n

-- ---- from the last digit to the first

pub length_digits : (b k n : ℕ) → length (digits b k n) ≡ k
unfolding digits
length_digits b zero n = refl
length_digits b (suc k) n = length-append (digits b k (n / b)) (digit (n % b) ∷ []) ∙ omega (arith, length_digits b k (n / b))

-- a write at a later place may come first
sets-set_after : (xs d : List ℕ) (at k v : ℕ) → at + length xs ≤ k → sets (set d k v) at xs ≡ set (sets d at xs) k v
sets-set_after [] d at k v h = refl
sets-set_after (x ∷ xs) d at k v h =
    ap (λ (e : List ℕ). sets e (suc at) xs) (set_comm d k at v x (λ e. omega arith))
    ∙ sets-set_after xs (set d at x) (suc at) k v (omega arith)

last_digit : (b k n : ℕ) (d : List ℕ) (at : ℕ) → sets d at (digits b (suc k) n) ≡ sets (set d (at + k) (digit (n % b))) at (digits b k (n / b))
unfolding digits
last_digit b k n d at =
    sets-append d (digits b k (n / b)) (digit (n % b) ∷ []) at
    ∙ ap (λ (m : ℕ). set (sets d at (digits b k (n / b))) (at + m) (digit (n % b))) (length_digits b k (n / b))
    ∙ sym (sets-set_after (digits b k (n / b)) d at (at + k) (digit (n % b)) (omega (arith, length_digits b k (n / b))))

-- a loop's turn: the last of i digits is written, and those before it are left
pub digit_written : (b i n : ℕ) (d : List ℕ) {v : ℕ} → 0 < i → v ≡ digit (n % b) → sets (set d (i - 1) v) 0 (digits b (i - 1) (n / b)) ≡ sets d 0 (digits b i n)
digit_written b zero n d h w = absurd (not-suc-le-zero h)
digit_written b (suc k) n d h w =
    let e : suc k - 1 ≡ k = omega arith in
    rw (e, w) (simp zero-add at (sym (last_digit b k n d 0)))

-- the loop's end: no digit is left, and the places are filled
pub digits_written : (b n rest : ℕ) (d : List ℕ) {e : List ℕ} {i : ℕ} → i ≤ 0 → sets e 0 (digits b i rest) ≡ sets d 0 (digits b (length d) n) → e ≡ digits b (length d) n
unfolding digits
digits_written b n rest d {e} {i} h w =
    let ds = digits b (length d) n in
    let long : length ds ≡ length d = length_digits b (length d) n in
    let none : drop (0 + length ds) d ≡ [] = drop_all (0 + length ds) d (omega arith) in
    none_left (omega arith) w
    ∙ sets-eq ds d 0 (omega arith)
    ∙ ap (λ (l : List ℕ). ds ++ l) none
    ∙ append-nil ds
  where
    none_left : i ≡ 0 → sets e 0 (digits b i rest) ≡ sets d 0 (digits b (length d) n) → e ≡ sets d 0 (digits b (length d) n)
    none_left z w = rw z at w
