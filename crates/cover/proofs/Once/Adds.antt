-- What a piece of the run adds to the events: each tag once, and only tags that K allows. Pieces one after the other add together if their tags are apart.
-- Assumes nothing.
use mathlib.Core.Path.{◌≡◌, refl, subst}
use mathlib.Core.Logic.{◌⊎◌, inl, inr}
use mathlib.Core.List.{List, [], ◌∷◌}
use native.Mathlib.Omega.{arith}
use Rattle.plan_rules.specs.Event.{Event, Step, amounts}
use Rattle.plan_rules.specs.World.{World, Flow, go, halt, bind, ending}
use Rattle.cover.specs.Trace.{Any, here, before, IsRecord, batch_record, text_record, point_record}
use Rattle.cover.proofs.TagPaths.{Tagged}

-- ---- definitions

-- a record has this tag
abbrev pub Recorded : List Step → Tagged → Type 0
Recorded x l = Any (λ (y : List Step × Event). IsRecord y.1 × (y.0 ≡ x)) l

abbrev pub Once : Tagged → Type 0
Once [] = Unit {0}
Once (y ∷ l) = (IsRecord y.1 → Recorded y.0 l → ⊥) × Once l

pub record Adds (K : List Step → Type 0) (l l' : Tagged) : Type 0 where
  pub once : Once l → ((x : List Step) → Recorded x l → K x → ⊥) → Once l'
  pub only : (x : List Step) → Recorded x l' → Recorded x l ⊎ K x

abbrev pub AddsWorld : (List Step → Type 0) → (World Tagged → World Tagged) → Type 0
AddsWorld K f = (w : World Tagged) → Adds K w.out (f w).out

abbrev pub AddsFlow : (List Step → Type 0) → (World Tagged → Flow Tagged) → Type 0
AddsFlow K f = (w : World Tagged) → Adds K w.out (ending (f w)).out

-- no tag
abbrev pub Nowhere : List Step → Type 0
Nowhere x = ⊥

-- ---- single events

-- a record is an object, and other events are none
record_object : (e : Event) → IsRecord e → (amounts e).detail_objects ≡ 1
record_object e batch_record = refl
record_object e text_record = refl
record_object e point_record = refl

no_object : (e : Event) → (amounts e).detail_objects ≡ 0 → IsRecord e → ⊥
no_object e z r = let o = record_object e r in let y : ⊥ = omega arith in y

pub adds_nothing : (K : List Step → Type 0) (l : Tagged) → Adds K l l
adds_nothing K l = record { once = λ o f. o; only = λ x r. inl r }

-- an event that is no record
pub adds_quiet : (K : List Step → Type 0) (l : Tagged) (t : List Step) (e : Event) → (amounts e).detail_objects ≡ 0 → Adds K l ((t, e) ∷ l)
adds_quiet K l t e z = record { once = λ o f. (λ i r. no_object e z i, o); only = λ x r. by x r }
  where
    by : (x : List Step) → Recorded x ((t, e) ∷ l) → Recorded x l ⊎ K x
    by x (here k) = absurd (no_object e z k.0)
    by x (before r) = inl r

pub adds_record : (K : List Step → Type 0) (l : Tagged) (t : List Step) (e : Event) → K t → Adds K l ((t, e) ∷ l)
adds_record K l t e k = record { once = λ o f. (λ i r. f t r k, o); only = λ x r. by x r }
  where
    by : (x : List Step) → Recorded x ((t, e) ∷ l) → Recorded x l ⊎ K x
    by x (here z) = inr (subst K z.1 k)
    by x (before r) = inl r

-- ---- one after the other

pub adds_more : (K L : List Step → Type 0) (l l' : Tagged) → ((x : List Step) → K x → L x) → Adds K l l' → Adds L l l'
adds_more K L l l' f h = record { once = λ o g. h.once o (λ x r k. g x r (f x k)); only = λ x r. by x (h.only x r) }
  where
    by : (x : List Step) → Recorded x l ⊎ K x → Recorded x l ⊎ L x
    by x (inl r) = inl r
    by x (inr k) = inr (f x k)

adds_then : (K L M : List Step → Type 0) (l l' l'' : Tagged) → ((x : List Step) → K x → M x) → ((x : List Step) → L x → M x) → ((x : List Step) → K x → L x → ⊥) → Adds K l l' → Adds L l' l'' → Adds M l l''
adds_then K L M l l' l'' f g apart a b = record { once = λ o m. b.once (a.once o (λ x r k. m x r (f x k))) (λ x r k. fresh o m x k (a.only x r)); only = λ x r. two x (b.only x r) }
  where
    fresh : Once l → ((x : List Step) → Recorded x l → M x → ⊥) → (x : List Step) → L x → Recorded x l ⊎ K x → ⊥
    fresh o m x k (inl r) = m x r (g x k)
    fresh o m x k (inr j) = apart x j k

    one : (x : List Step) → Recorded x l ⊎ K x → Recorded x l ⊎ M x
    one x (inl r) = inl r
    one x (inr k) = inr (f x k)

    two : (x : List Step) → Recorded x l' ⊎ L x → Recorded x l ⊎ M x
    two x (inl r) = one x (a.only x r)
    two x (inr k) = inr (g x k)

-- what adds no record, behind or in front
pub quiet_after : (K : List Step → Type 0) (l l' l'' : Tagged) → Adds K l l' → Adds Nowhere l' l'' → Adds K l l''
quiet_after K l l' l'' h k = adds_then K Nowhere K l l' l'' (λ x k. k) (λ x k. absurd k) (λ x k z. z) h k

pub quiet_before : (K : List Step → Type 0) (l l' l'' : Tagged) → Adds Nowhere l l' → Adds K l' l'' → Adds K l l''
quiet_before K l l' l'' h k = adds_then Nowhere K K l l' l'' (λ x k. absurd k) (λ x k. k) (λ x k z. k) h k

pub bind_adds : (K L M : List Step → Type 0) (l : Tagged) (x : Flow Tagged) (f : World Tagged → Flow Tagged) → ((x : List Step) → K x → M x) → ((x : List Step) → L x → M x) → ((x : List Step) → K x → L x → ⊥)
    → Adds K l (ending x).out → AddsFlow L f → Adds M l (ending (bind x f)).out
bind_adds K L M l (go w) f a b c h k = adds_then K L M l w.out (ending (f w)).out a b c h (k w)
bind_adds K L M l (halt w) f a b c h k = adds_more K M l w.out a h
