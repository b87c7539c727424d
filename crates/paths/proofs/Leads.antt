-- A path leads to one item, at placements of any kind, past as many members as it has references; and to the same item at placements of two kinds, if the root's are related and every member keeps them so.
-- Assumes nothing.
use mathlib.Core.Path.{◌≡◌, sym, ap, ◌∙◌, subst}
use mathlib.Core.Option.{some}
use Prim.Native.Nat.{ℕ, suc, ◌+◌, ◌<◌}
use native.Mathlib.Omega.{arith}
use Rattle.records.specs.declared.PreparedSource.{PreparedSource}
use Rattle.records.specs.declared.PreparedSource.TheVariants.{Geometry, Text, Node, Reference}
use Rattle.records.specs.declared.PreparedGeometry.{PreparedGeometry}
use Rattle.records.specs.declared.PreparedText.{PreparedText}
use Rattle.records.specs.declared.PreparedReference.{PreparedReference}
use Rattle.abstract_sheet.specs.Sheet.{NodeRecord, CellRecord, Sheet}
use Rattle.plan_rules.specs.Event.{Step}
use Rattle.paths.specs.Path.{Path, references, CountsMembers, Item, a_batch, a_text, a_point, placement_of, StepLeads, to_batch, to_text, to_node, to_reference, through_member_lem, Leads, at_batch, at_text, at_point, step}

-- ---- one item

some_injective : {A : Type 0} {a b : A} → some a ≡ some b → a ≡ b
some_injective e = cc

module _ {P : Type 0} (member_at : P → PreparedReference → ℕ → ℕ → P) (S : Sheet) where
  -- where a step leads, a step by the same name leads
  same_step : {s u w : PreparedSource} {T U W : P} {k : Step} (p : Path) (h : Item P) → StepLeads member_at S s T k u U → StepLeads member_at S s T k w W → Leads member_at S w W p h → Leads member_at S u U p h
  same_step p h (to_batch {i = i} {T = T} e l) (to_batch f m) r = subst (λ (c : CellRecord). Leads member_at S (Geometry (c.geometries.at i)) T p h) (some_injective (sym f ∙ e)) r
  same_step p h (to_text {i = i} {T = T} e l) (to_text f m) r = subst (λ (c : CellRecord). Leads member_at S (Text (c.texts.at i)) T p h) (some_injective (sym f ∙ e)) r
  same_step p h (to_node {i = i} {T = T} e l) (to_node f m) r = subst (λ (c : CellRecord). Leads member_at S (Node (c.nodes.at i)) T p h) (some_injective (sym f ∙ e)) r
  same_step p h (to_reference {i = i} {T = T} e l) (to_reference f m) r = subst (λ (c : CellRecord). Leads member_at S (Reference (c.references.at i)) T p h) (some_injective (sym f ∙ e)) r
  same_step p h (through_member_lem {column = x} {row = y} {T = T} e k l) (through_member_lem f m n) g =
      subst (λ (r : PreparedReference). Leads member_at S r.source (member_at T r x y) p h) (some_injective (sym f ∙ e)) g

  pub one_item : {s : PreparedSource} {T : P} {p : Path} {h k : Item P} → Leads member_at S s T p h → Leads member_at S s T p k → h ≡ k
  one_item (at_batch {n = n} {T = T} e) (at_batch f) = ap (λ (g : PreparedGeometry). a_batch n g T) (some_injective (sym e ∙ f))
  one_item (at_text {n = n} {T = T} e) (at_text f) = ap (λ (x : PreparedText). a_text n x T) (some_injective (sym e ∙ f))
  one_item (at_point {n = n} {j = j} {T = T} e l) (at_point f m) = ap (λ (x : NodeRecord). a_point n x j T) (some_injective (sym e ∙ f))
  one_item (step {p = p} o l) (step {h = h} q m) = one_item l (same_step p h o q m)
  one_item {k = k} (at_point {n = n} {j = j} {T = T} e l) (step {u = u} {U = U} q m) = elim q [ ]
  one_item (step {u = u} {T = T} {U = U} {h = h} o l) (at_point {n = n} {j = j} f m) = elim o [ ]

-- ---- how many members

module _ (S : Sheet) where
  abbrev passing : ℕ → PreparedReference → ℕ → ℕ → ℕ
  passing passed r column row = suc passed

  counted : {s : PreparedSource} {n : ℕ} {p : Path} {h : Item ℕ} → Leads passing S s n p h → placement_of h ≡ n + references p
  counted (at_batch e) = omega arith
  counted (at_text e) = omega arith
  counted (at_point e l) = omega arith
  counted (step (to_batch e l) r) = counted r
  counted (step (to_text e l) r) = counted r
  counted (step (to_node e l) r) = counted r
  counted (step (to_reference e l) r) = counted r
  counted (step (through_member_lem e k l) r) = let c = counted r in omega arith

pub counts_members : CountsMembers
counts_members S root p h l = let c = counted S l in omega arith

-- ---- placements of two kinds

module _ {P Q : Type 0} (Related : P → Q → Type 0) where
  -- the same item, at related placements
  pub data SameItem : Item P → Item Q → Type 0 where
    same_batch : {n : ℕ} {g : PreparedGeometry} {T : P} {U : Q} → Related T U → SameItem (a_batch n g T) (a_batch n g U)
    same_text : {n : ℕ} {x : PreparedText} {T : P} {U : Q} → Related T U → SameItem (a_text n x T) (a_text n x U)
    same_point : {n j : ℕ} {x : NodeRecord} {T : P} {U : Q} → Related T U → SameItem (a_point n x j T) (a_point n x j U)

  module _ (memberP : P → PreparedReference → ℕ → ℕ → P) (memberQ : Q → PreparedReference → ℕ → ℕ → Q) (S : Sheet)
      (keeps : (T : P) (U : Q) (n : ℕ) (r : PreparedReference) (column row : ℕ) → S.reference n ≡ some r → column < r.grid.columns → row < r.grid.rows
      → Related T U → Related (memberP T r column row) (memberQ U r column row)) where
    step_same : {s u : PreparedSource} {T T' : P} {k : Step} (U : Q) → Related T U → StepLeads memberP S s T k u T' → (U' : Q) × StepLeads memberQ S s U k u U' × Related T' U'
    step_same U h (to_batch e l) = (U, to_batch e l, h)
    step_same U h (to_text e l) = (U, to_text e l, h)
    step_same U h (to_node e l) = (U, to_node e l, h)
    step_same U h (to_reference e l) = (U, to_reference e l, h)
    step_same U h (through_member_lem {n = n} {column = column} {row = row} {T = T} {r = r} e c< r<) = (memberQ U r column row, through_member_lem e c< r<, keeps T U n r column row e c< r< h)

    pub leads_same : {s : PreparedSource} {T : P} {p : Path} {h : Item P} (U : Q) → Related T U → Leads memberP S s T p h → (k : Item Q) × Leads memberQ S s U p k × SameItem h k
    leads_same U h (at_batch {n = n} {g = g} e) = (a_batch n g U, at_batch e, same_batch h)
    leads_same U h (at_text {n = n} {x = x} e) = (a_text n x U, at_text e, same_text h)
    leads_same U h (at_point {n = n} {j = j} {x = x} e j<) = (a_point n x j U, at_point e j<, same_point h)
    leads_same U h (step o l) =
        let m = step_same U h o in
        let k = leads_same m.0 m.2 l in
        (k.0, step m.1 k.1, k.2)
