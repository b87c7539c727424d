-- Tags and paths. A visit's tag is the way from the root with the newest step first, so that a step is one cons; `back t p` is the path that goes the way t and on by p.
-- Assumes nothing.
use mathlib.Core.Path.{◌≡◌, refl, sym, ap, ◌∙◌, subst}
use mathlib.Core.List.{List, [], ◌∷◌, ◌++◌, append_assoc, append-nil}
use mathlib.Core.Option.{Option}
use Prim.Native.Nat.{ℕ, ◌+◌}
use native.Mathlib.Omega.{arith}
use Rattle.records.specs.declared.PreparedSource.{PreparedSource}
use Rattle.records.specs.declared.PreparedSource.TheVariants.{Cell}
use Rattle.records.specs.declared.PreparedReference.{PreparedReference}
use Rattle.abstract_sheet.specs.Sheet.{Sheet}
use Rattle.plan_rules.specs.Event.{Event, Step, batch_at, text_at, node_at, reference_at, member, point_at, encode}
use Rattle.plan_rules.specs.Tape.{tape}
use Rattle.totals.specs.Proxies.{Load, load_of, how_many}
use Rattle.paths.specs.Path.{Path, references, Item, StepLeads, Leads, step, LeadsTo, Reaches, at_root, further}
use Rattle.cover.specs.Trace.{path_of, with_paths, All, none_left, and_then, Any, here, before}

-- every event with its tag, the newest first
abbrev pub Tagged : Type 0
Tagged = List (List Step × Event)

abbrev pub back : List Step → Path → Path
back [] p = p
back (s ∷ t) p = back t (s ∷ p)

-- ---- the path of a tag

pub back_path : (t : List Step) (p : Path) → back t p ≡ path_of t ++ p
back_path [] p = refl
back_path (s ∷ t) p = back_path t (s ∷ p) ∙ sym (append_assoc (path_of t) (s ∷ []) p)

pub back_whole : (t : List Step) → back t [] ≡ path_of t
back_whole t = back_path t [] ∙ append-nil (path_of t)

-- turned over again
turn : Path → List Step → List Step
turn [] t = t
turn (s ∷ p) t = turn p (s ∷ t)

turn_append : (p r : Path) (t : List Step) → turn (p ++ r) t ≡ turn r (turn p t)
unfolding turn
turn_append [] r t = refl
turn_append (s ∷ p) r t = turn_append p r (s ∷ t)

turn_path : (t : List Step) → turn (path_of t) [] ≡ t
unfolding turn
turn_path [] = refl
turn_path (s ∷ t) = turn_append (path_of t) (s ∷ []) [] ∙ ap (λ (u : List Step). s ∷ u) (turn_path t)

-- different tags have different paths
pub path_injective : (t u : List Step) → path_of t ≡ path_of u → t ≡ u
path_injective t u e = sym (turn_path t) ∙ ap (λ (p : Path). turn p []) e ∙ turn_path u

-- ---- where a tag leads

-- at placements of any kind, as `paths`
module _ {P : Type 0} (member_at : P → PreparedReference → ℕ → ℕ → P) (S : Sheet) (origin : P) (root : ℕ) where
  pub data TagLeads : List Step → PreparedSource → P → Type 0 where
    start : TagLeads [] (Cell root) origin
    on : {t : List Step} {s u : PreparedSource} {T U : P} {k : Step} → TagLeads t s T → StepLeads member_at S s T k u U → TagLeads (k ∷ t) u U

module _ {P : Type 0} {member_at : P → PreparedReference → ℕ → ℕ → P} {S : Sheet} {origin : P} {root : ℕ} where
  pub tag_reaches : {t : List Step} {s : PreparedSource} {T : P} → TagLeads member_at S origin root t s T → Reaches member_at S origin root (path_of t) s T
  tag_reaches start = at_root
  tag_reaches (on w k) = further (tag_reaches w) k

  -- the way from the root and a path from there are a path from the root
  tag_leads_back : {t : List Step} {s : PreparedSource} {T : P} (p : Path) (h : Item P) → TagLeads member_at S origin root t s T → Leads member_at S s T p h → LeadsTo member_at S origin root (back t p) h
  tag_leads_back p h start l = l
  tag_leads_back p h (on {k = k} w o) l = tag_leads_back (k ∷ p) h w (step o l)

  pub tag_leads : {t : List Step} {s : PreparedSource} {T : P} (p : Path) (h : Item P) → TagLeads member_at S origin root t s T → Leads member_at S s T p h → LeadsTo member_at S origin root (path_of t ++ p) h
  tag_leads {t = t} p h w l = subst (λ (r : Path). LeadsTo member_at S origin root r h) (back_path t p) (tag_leads_back p h w l)

  -- an item at the tag itself
  pub tag_leads_here : {t : List Step} {s : PreparedSource} {T : P} (h : Item P) → TagLeads member_at S origin root t s T → Leads member_at S s T [] h → LeadsTo member_at S origin root (path_of t) h
  tag_leads_here {t = t} h w l = subst (λ (p : Path). LeadsTo member_at S origin root p h) (append-nil (path_of t)) (tag_leads [] h w l)

-- ---- how many references

references_append : (p r : Path) → references (p ++ r) ≡ references p + references r
references_append [] r = omega arith
references_append (batch_at i ∷ p) r = references_append p r
references_append (text_at i ∷ p) r = references_append p r
references_append (node_at i ∷ p) r = references_append p r
references_append (reference_at i ∷ p) r = references_append p r
references_append (member x y ∷ p) r = let k = references_append p r in omega arith
references_append (point_at j ∷ p) r = references_append p r

-- a tag and its path lead through as many
pub references_path : (t : List Step) → references (path_of t) ≡ references t
references_path [] = refl
references_path (k ∷ t) = let a = references_append (path_of t) (k ∷ []) in let b = references_path t in let c = references_append (k ∷ []) t in omega arith

-- ---- events with their tags, and with their paths

pub paths_any : (F : Path × Event → Type 0) (l : Tagged) → Any (λ (x : List Step × Event). F (path_of x.0, x.1)) l → Any F (with_paths l)
paths_any F (x ∷ l) (here h) = here h
paths_any F (x ∷ l) (before h) = before (paths_any F l h)
paths_any F [] x' = elim x' [ ]

pub paths_all : (F : Path × Event → Type 0) (l : Tagged) → All (λ (x : List Step × Event). F (path_of x.0, x.1)) l → All F (with_paths l)
paths_all F [] none_left = none_left
paths_all F (x ∷ l) (and_then h k) = and_then h (paths_all F l k)

-- as many proxies of each sort
pub paths_many : (counted : Option Load → ℕ) (l : Tagged) → how_many counted (with_paths l) ≡ how_many counted l
paths_many counted [] = refl
paths_many counted (x ∷ l) = ap (λ (n : ℕ). counted (load_of x.1) + n) (paths_many counted l)

pub paths_tape : (l : Tagged) → tape (with_paths l) ≡ tape l
paths_tape [] = refl
paths_tape (x ∷ l) = ap (λ (b : List ℕ). b ++ encode x.1) (paths_tape l)

-- ---- all, any

pub any_all : {A : Type 0} {F G : A → Type 0} {l : List A} → Any F l → All G l → Any (λ (a : A). F a × G a) l
any_all (here p) (and_then r k) = here (p, r)
any_all (before h) (and_then r k) = before (any_all h k)

pub any_map : {A : Type 0} {F : A → Type 0} (G : A → Type 0) {l : List A} → ((a : A) → F a → G a) → Any F l → Any G l
any_map G f (here {a = a} p) = here (f a p)
any_map G f (before h) = before (any_map G f h)

pub all_map : {A : Type 0} {F : A → Type 0} (G : A → Type 0) {l : List A} → ((a : A) → F a → G a) → All F l → All G l
all_map G f none_left = none_left
all_map G f (and_then {a = a} p k) = and_then (f a p) (all_map G f k)
