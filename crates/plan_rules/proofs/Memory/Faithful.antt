-- Counting over the lent places is counting over the Rust's maps: the same draw units, and places and maps that still agree.
-- n is the number of cells and D the plan's depth; the sheet's cells are those numbered below n.
-- Assumes nothing.
use mathlib.Core.Path.{◌≡◌, refl, sym, ap, ◌∙◌, subst}
use mathlib.Core.Bool.{Bool, true, false, cond, not}
use mathlib.Core.List.{List}
use mathlib.Core.Option.{Option, none, some}
use Prim.Native.Nat.{ℕ, zero, suc, ◌+◌, ◌-◌, ◌*◌, ◌≤◌, ◌<◌}
use native.Mathlib.Omega.{arith}
use lib.ListN.{length, get_or, set, length-set, replicate, length-replicate, get_or-replicate}
use lib.Seq.{get_or-set_same, get_or-set_other}
use lib.Dec.{leb, eqb}
use borrow.Author.Tests.{eqb-true, eqb-false, ne_eqb}
use Rattle.grid.specs.Grid.{grid_count}
use Rattle.records.specs.declared.PreparedSource.{PreparedSource}
use Rattle.records.specs.declared.PreparedSource.TheVariants.{Geometry, Text, Node, Reference, Cell}
use Rattle.records.specs.declared.PreparedReference.{PreparedReference}
use Rattle.abstract_sheet.specs.Sheet.{CellRecord, Sheet}
use Rattle.plan_rules.specs.Event.{◌⊞◌, ◌⊠◌}
use Rattle.plan_rules.specs.Scratch.{place, is_marked}
use Rattle.plan_rules.specs.DrawUnits.{Units, counted, scaled, fold, reference_draw_units_with, found_draw_units, add_reference_units, remember, cell_draw_units_with, source_draw_units_with, reference_draw_units, numbered_draw_units}
use Rattle.plan_rules.specs.Maps.{Maps, empty_maps, stacked, opened, cached, Tally, tally, fold_maps, add_mapped, map_or_one, fresh_cell, mapped_cell, mapped_reference_with, mapped_found, mapped_source, mapped_reference}
use Rattle.plan_rules.proofs.Memory.Places.{place_below, places_apart}

deep : (d : ℕ) → eqb (suc d) 0 ≡ false
deep d = ne_eqb (suc d) 0 (λ q. let z : ⊥ = omega arith in z)

-- ---- agreement

-- what the places hold for a cell and a depth
unfoldable pub recalled : ℕ → List ℕ → List ℕ → ℕ → ℕ → Option ℕ
recalled n k m c d = cond (is_marked m (place n (d + 1) c)) (some (get_or k (place n (d - 1) c) 0)) none

pub record Agree (n D : ℕ) (k m : List ℕ) (w : Maps) : Type 0 where
  pub marks_room : (D + 2) * n ≤ length m
  pub counts_room : D * n ≤ length k
  pub visiting : (c : ℕ) → c < n → is_marked m (place n 0 c) ≡ w.cell_stack c
  pub counting : (c : ℕ) → c < n → is_marked m (place n 1 c) ≡ w.stack c
  pub remembered : (c d : ℕ) → c < n → 0 < d → d ≤ D → recalled n k m c d ≡ w.cache c d
  -- nothing is remembered at depth 0, and a cell that the sheet lacks counts 1
  pub shallow : (c : ℕ) → w.cache c 0 ≡ none
  pub outside : (c d v : ℕ) → n ≤ c → w.cache c d ≡ some v → v ≡ 1

pub record Same (n D : ℕ) (x : Units) (t : Tally) : Type 0 where
  pub units : x.units ≡ t.units
  pub agree : Agree n D x.counts x.marks t.maps

-- zeroed places are the empty maps
pub zeroed_agree : (n D : ℕ) → Agree n D (replicate (D * n) 0) (replicate ((D + 2) * n) 0) empty_maps
unfolding recalled
zeroed_agree n D = record {
  marks_room = let e = length-replicate {A = ℕ} ((D + 2) * n) 0 in omega (arith, e);
  counts_room = let e = length-replicate {A = ℕ} (D * n) 0 in omega (arith, e);
  visiting = λ c h. blank 0 c (omega arith) h;
  counting = λ c h. blank 1 c (omega arith) h;
  remembered = λ c d h p q. ap (λ (t : Bool). cond t (some (get_or (replicate (D * n) 0) (place n (d - 1) c) 0)) none) (blank (d + 1) c (omega arith) h);
  shallow = λ c. refl;
  outside = λ c d v h e. let z : ◌≡◌ {A = ℕ} 0 1 = cc in absurd (omega arith);
}
  where
    blank : (l c : ℕ) → l < D + 2 → c < n → is_marked (replicate ((D + 2) * n) 0) (place n l c) ≡ false
    blank l c hl h = ap (λ (z : ℕ). not (eqb z 0)) (get_or-replicate {A = ℕ} ((D + 2) * n) (place n l c) 0 0 (place_below n l (D + 2) c hl h))

-- the cells of the sheet are those numbered below n
pub record CellsBelow (n : ℕ) (S : Sheet) : Type 0 where
  pub present : (c : ℕ) (x : CellRecord) → S.cell c ≡ some x → c < n
  pub absent : (c : ℕ) → S.cell c ≡ none → n ≤ c

module _ (n D : ℕ) where
  -- ---- a mark of a cell of the sheet, in the layer l

  module _ (m : List ℕ) (room : (D + 2) * n ≤ length m) (l c : ℕ) (hl : l < D + 2) (hc : c < n) (v : ℕ) where
    mark_there : is_marked (set m (place n l c) v) (place n l c) ≡ not (eqb v 0)
    mark_there = ap (λ (z : ℕ). not (eqb z 0)) (get_or-set_same m (place n l c) v 0 (let p : place n l c < (D + 2) * n = place_below n l (D + 2) c hl hc in omega (arith, room)))

    mark_elsewhere : (j x : ℕ) → x < n → (j ≡ l → x ≡ c → ⊥) → is_marked (set m (place n l c) v) (place n j x) ≡ is_marked m (place n j x)
    mark_elsewhere j x hx h = ap (λ (z : ℕ). not (eqb z 0)) (get_or-set_other m (place n l c) (place n j x) v 0 (places_apart n j l x c hx hc h))

    -- a set of cells, kept in the layer: `insert` and `remove`
    mark_set : (w : ℕ → Bool) (b : Bool) → not (eqb v 0) ≡ b → ((x : ℕ) → x < n → is_marked m (place n l x) ≡ w x) → (x : ℕ) → x < n → is_marked (set m (place n l c) v) (place n l x) ≡ cond (eqb x c) b (w x)
    mark_set w b hv before x hx = by (eqb x c) refl
      where
        by : (t : Bool) → eqb x c ≡ t → is_marked (set m (place n l c) v) (place n l x) ≡ cond t b (w x)
        by true e = ap (λ (z : ℕ). is_marked (set m (place n l c) v) (place n l z)) (eqb-true x c e) ∙ mark_there ∙ hv
        by false e = mark_elsewhere l x hx (λ p q. eqb-false x c e q) ∙ before x hx

  module _ (k m : List ℕ) (w : Maps) (a : Agree n D k m w) (c : ℕ) (hc : c < n) where
    recalled_kept : (l v x y : ℕ) → l < D + 2 → x < n → (y + 1 ≡ l → ⊥) → recalled n k (set m (place n l c) v) x y ≡ recalled n k m x y
    unfolding recalled
    recalled_kept l v x y hl hx h = ap (λ (t : Bool). cond t (some (get_or k (place n (y - 1) x) 0)) none) (mark_elsewhere m a.marks_room l c hl hc v (y + 1) x hx (λ p q. h p))

    -- the planner opens and closes a cell
    pub open_agree : (v : ℕ) (b : Bool) → not (eqb v 0) ≡ b → Agree n D k (set m (place n 0 c) v) (opened c b w)
    open_agree v b hv = record {
      marks_room = let e = length-set m (place n 0 c) v in omega (arith, e, a.marks_room);
      counts_room = a.counts_room;
      visiting = mark_set m a.marks_room 0 c (omega arith) hc v w.cell_stack b hv a.visiting;
      counting = λ x hx. mark_elsewhere m a.marks_room 0 c (omega arith) hc v 1 x hx (λ p q. let z : ⊥ = omega arith in z) ∙ a.counting x hx;
      remembered = λ x y hx hy hd. recalled_kept 0 v x y (omega arith) hx (λ p. let z : ⊥ = omega arith in z) ∙ a.remembered x y hx hy hd;
      shallow = a.shallow;
      outside = a.outside;
    }

    -- a count begins and ends
    count_agree : (v : ℕ) (b : Bool) → not (eqb v 0) ≡ b → Agree n D k (set m (place n 1 c) v) (stacked c b w)
    count_agree v b hv = record {
      marks_room = let e = length-set m (place n 1 c) v in omega (arith, e, a.marks_room);
      counts_room = a.counts_room;
      visiting = λ x hx. mark_elsewhere m a.marks_room 1 c (omega arith) hc v 0 x hx (λ p q. let z : ⊥ = omega arith in z) ∙ a.visiting x hx;
      counting = mark_set m a.marks_room 1 c (omega arith) hc v w.stack b hv a.counting;
      remembered = λ x y hx hy hd. recalled_kept 1 v x y (omega arith) hx (λ p. let z : ⊥ = omega arith in z) ∙ a.remembered x y hx hy hd;
      shallow = a.shallow;
      outside = a.outside;
    }

    -- a count is remembered
    remember_agree : (d u : ℕ) → 0 < d → d ≤ D → Agree n D (set k (place n (d - 1) c) u) (set m (place n (d + 1) c) 1) (cached c d u w)
    unfolding recalled
    remember_agree d u h0 hd = record {
      marks_room = let e = length-set m (place n (d + 1) c) 1 in omega (arith, e, a.marks_room);
      counts_room = let e = length-set k (place n (d - 1) c) u in omega (arith, e, a.counts_room);
      visiting = λ x hx. mark_elsewhere m a.marks_room (d + 1) c (omega arith) hc 1 0 x hx (λ p q. let z : ⊥ = omega arith in z) ∙ a.visiting x hx;
      counting = λ x hx. mark_elsewhere m a.marks_room (d + 1) c (omega arith) hc 1 1 x hx (λ p q. let z : ⊥ = omega arith in z) ∙ a.counting x hx;
      remembered = λ x y hx hy hz. there x y hx hy hz (eqb x c) refl (eqb y d) refl;
      shallow = λ x. low x (eqb x c);
      outside = λ x y v hx e. a.outside x y v hx (rw (ne_eqb x c (λ q. let z : ⊥ = omega arith in z)) at e);
    }
      where
        count_room : place n (d - 1) c < length k
        count_room = let p : place n (d - 1) c < D * n = place_below n (d - 1) D c (omega arith) hc in omega (arith, a.counts_room)

        other : (x y : ℕ) → x < n → 0 < y → y ≤ D → (y ≡ d → x ≡ c → ⊥) → recalled n (set k (place n (d - 1) c) u) (set m (place n (d + 1) c) 1) x y ≡ w.cache x y
        other x y hx hy hz g =
            ap (λ (t : Bool). cond t (some (get_or (set k (place n (d - 1) c) u) (place n (y - 1) x) 0)) none) (mark_elsewhere m a.marks_room (d + 1) c (omega arith) hc 1 (y + 1) x hx (λ p q. g (let z : y ≡ d = omega arith in z) q))
            ∙ ap (λ (z : ℕ). cond (is_marked m (place n (y + 1) x)) (some z) none) (get_or-set_other k (place n (d - 1) c) (place n (y - 1) x) u 0 (places_apart n (y - 1) (d - 1) x c hx hc (λ p q. g (let z : y ≡ d = omega arith in z) q)))
            ∙ a.remembered x y hx hy hz

        there : (x y : ℕ) → x < n → 0 < y → y ≤ D → (s : Bool) → eqb x c ≡ s → (t : Bool) → eqb y d ≡ t → recalled n (set k (place n (d - 1) c) u) (set m (place n (d + 1) c) 1) x y ≡ cond s (cond t (some u) (w.cache x y)) (w.cache x y)
        there x y hx hy hz true e true f =
            ap (λ (z : ℕ). recalled n (set k (place n (d - 1) c) u) (set m (place n (d + 1) c) 1) z y) (eqb-true x c e)
            ∙ ap (λ (z : ℕ). recalled n (set k (place n (d - 1) c) u) (set m (place n (d + 1) c) 1) c z) (eqb-true y d f)
            ∙ rw (get_or-set_same m (place n (d + 1) c) 1 0 (let p : place n (d + 1) c < (D + 2) * n = place_below n (d + 1) (D + 2) c (omega arith) hc in omega (arith, a.marks_room)), get_or-set_same k (place n (d - 1) c) u 0 count_room)
        there x y hx hy hz true e false f = other x y hx hy hz (λ p q. eqb-false y d f p)
        there x y hx hy hz false e t f = other x y hx hy hz (λ p q. eqb-false x c e q)

        low : (x : ℕ) (s : Bool) → cond s (cond (eqb 0 d) (some u) (w.cache x 0)) (w.cache x 0) ≡ none
        low x true = rw (ne_eqb 0 d (λ q. let z : ⊥ = omega arith in z)) (a.shallow x)
        low x false = a.shallow x

  -- ---- a cell that the sheet lacks: the Rust remembers 1 for it, and the places have nothing

  module _ (k m : List ℕ) (w : Maps) (a : Agree n D k m w) (c : ℕ) (hc : n ≤ c) where
    missing_agree : (d : ℕ) → 0 < d → Agree n D k m (cached c d 1 (stacked c false (stacked c true w)))
    missing_agree d h0 = record {
      marks_room = a.marks_room;
      counts_room = a.counts_room;
      visiting = a.visiting;
      counting = λ x hx. rw (ne_eqb x c (λ q. let z : ⊥ = omega arith in z)) (a.counting x hx);
      remembered = λ x y hx hy hd. rw (ne_eqb x c (λ q. let z : ⊥ = omega arith in z)) (a.remembered x y hx hy hd);
      shallow = λ x. low x (eqb x c);
      outside = λ x y v hx e. out x y v hx (eqb x c) (eqb y d) e;
    }
      where
        low : (x : ℕ) (s : Bool) → cond s (cond (eqb 0 d) (some 1) (w.cache x 0)) (w.cache x 0) ≡ none
        low x true = rw (ne_eqb 0 d (λ q. let z : ⊥ = omega arith in z)) (a.shallow x)
        low x false = a.shallow x

        out : (x y v : ℕ) → n ≤ x → (s t : Bool) → cond s (cond t (some 1) (w.cache x y)) (w.cache x y) ≡ some v → v ≡ 1
        out x y v hx true true e = cc
        out x y v hx true false e = a.outside x y v hx e
        out x y v hx false t e = a.outside x y v hx e

  -- ---- the three counts

  module _ (S : Sheet) (numbered : CellsBelow n S) where
    module _ (visit : ℕ → List ℕ → List ℕ → Units) (walk : ℕ → Maps → Tally) (hv : (r : ℕ) (k m : List ℕ) (w : Maps) → Agree n D k m w → Same n D (visit r k m) (walk r w)) where
      fold_same : (c : CellRecord) (g i : ℕ) (x : Units) (t : Tally) → Same n D x t → Same n D (fold (add_reference_units visit c) g i x) (fold_maps (add_mapped walk c) g i t)
      unfolding fold fold_maps add_reference_units add_mapped
      fold_same c zero i x t h = h
      fold_same c (suc g) i x t h =
          let y = hv (c.references.at i) x.counts x.marks t.maps h.agree in
          fold_same c g (i + 1) _ _
          (record {
            units = ap (λ (u : ℕ). u ⊞ (visit (c.references.at i) x.counts x.marks).units) h.units ∙ ap (λ (u : ℕ). t.units ⊞ u) y.units;
            agree = y.agree;
          })

      -- the cell is counted, closed and remembered
      counted_same : (k m : List ℕ) (w : Maps) (c : ℕ) (x : CellRecord) (d : ℕ) → Agree n D k m w → c < n → 0 < d → d ≤ D
          → let t = map_or_one walk (some x) (stacked c true w) in
          Same n D (remember S n d c (fold (add_reference_units visit x) x.references.count 0 (counted x.direct_draw_units k (set m (place n 1 c) 1)))) (tally t.units (cached c d t.units (stacked c false t.maps)))
      unfolding remember map_or_one
      counted_same k m w c x d a hc h0 hd =
          let t = fold_maps (add_mapped walk x) x.references.count 0 (tally x.direct_draw_units (stacked c true w)) in
          let u = fold (add_reference_units visit x) x.references.count 0 (counted x.direct_draw_units k (set m (place n 1 c) 1)) in
          let y = fold_same x x.references.count 0 (counted x.direct_draw_units k (set m (place n 1 c) 1)) (tally x.direct_draw_units (stacked c true w)) (record { units = refl; agree = count_agree k m w a c hc 1 true refl }) in
          record {
            units = y.units;
            agree = subst (λ (v : ℕ). Agree n D (set u.counts (place n (d - 1) c) u.units) (set (set u.marks (place n 1 c) 0) (place n (d + 1) c) 1) (cached c d v (stacked c false t.maps))) y.units
                (remember_agree _ _ _ (count_agree _ _ _ y.agree c hc 0 false refl) c hc d _ h0 hd);
          }

      present_same : (k m : List ℕ) (w : Maps) (c : ℕ) (x : CellRecord) (d : ℕ) → Agree n D k m w → c < n → d ≤ D → Same n D (cell_draw_units_with S n d visit c (some x) k m) (mapped_cell walk d c (some x) w)
      unfolding cell_draw_units_with mapped_cell fresh_cell recalled
      present_same k m w c x zero a hc hd = rw (a.shallow c) (record { units = refl; agree = a })
      present_same k m w c x (suc d) a hc hd = by (is_marked m (place n (suc d + 1) c)) refl (w.stack c) refl
        where
          known : (b : Bool) → is_marked m (place n (suc d + 1) c) ≡ b → w.cache c (suc d) ≡ cond b (some (get_or k (place n (suc d - 1) c) 0)) none
          known b e = sym (a.remembered c (suc d) hc (omega arith) hd) ∙ ap (λ (z : Bool). cond z (some (get_or k (place n (suc d - 1) c) 0)) none) e

          by : (b : Bool) → is_marked m (place n (suc d + 1) c) ≡ b → (t : Bool) → w.stack c ≡ t → Same n D (cell_draw_units_with S n (suc d) visit c (some x) k m) (mapped_cell walk (suc d) c (some x) w)
          by true e t g = rw (known true e, deep d, e) (record { units = refl; agree = a })
          by false e true g = rw (known false e, deep d, e, a.counting c hc, g) (record { units = refl; agree = a })
          by false e false g = rw (known false e, deep d, e, a.counting c hc, g) (counted_same k m w c x (suc d) a hc (omega arith) hd)

      missing_same : (k m : List ℕ) (w : Maps) (c d : ℕ) → Agree n D k m w → n ≤ c → Same n D (counted 1 k m) (mapped_cell walk d c none w)
      unfolding mapped_cell fresh_cell map_or_one
      missing_same k m w c zero a hc = rw (a.shallow c) (record { units = refl; agree = a })
      missing_same k m w c (suc d) a hc = by (w.cache c (suc d)) refl (w.stack c) refl
        where
          by : (x : Option ℕ) → w.cache c (suc d) ≡ x → (t : Bool) → w.stack c ≡ t → Same n D (counted 1 k m) (mapped_cell walk (suc d) c none w)
          by (some v) e t g = rw e (record { units = sym (a.outside c (suc d) v hc e); agree = a })
          by none e true g = rw (e, deep d, g) (record { units = refl; agree = a })
          by none e false g = rw (e, deep d, g) (record { units = refl; agree = missing_agree k m w a c hc (suc d) (omega arith) })

      cell_same : (c d : ℕ) (o : Option CellRecord) → S.cell c ≡ o → (k m : List ℕ) (w : Maps) → Agree n D k m w → d ≤ D → Same n D (cell_draw_units_with S n d visit c o k m) (mapped_cell walk d c o w)
      unfolding cell_draw_units_with
      cell_same c d none e k m w a hd = missing_same k m w c d a (numbered.absent c e)
      cell_same c d (some x) e k m w a hd = present_same k m w c x d a (numbered.present c x e) hd

      source_same : (x : PreparedSource) (k m : List ℕ) (w : Maps) (d : ℕ) → Agree n D k m w → d ≤ D → Same n D (source_draw_units_with S n d visit x k m) (mapped_source S d walk x w)
      unfolding source_draw_units_with mapped_source
      source_same (Cell c) k m w d a hd = cell_same c d (S.cell c) refl k m w a hd
      source_same (Reference r) k m w d a hd = hv r k m w a
      source_same (Geometry b) k m w d a hd = record { units = refl; agree = a }
      source_same (Text b) k m w d a hd = record { units = refl; agree = a }
      source_same (Node b) k m w d a hd = record { units = refl; agree = a }

    reference_with_same : (d : ℕ) (visit : PreparedSource → List ℕ → List ℕ → Units) (walk : PreparedSource → Maps → Tally) → ((x : PreparedSource) (k m : List ℕ) (w : Maps) → Agree n D k m w → Same n D (visit x k m) (walk x w))
        → (r : PreparedReference) (k m : List ℕ) (w : Maps) → Agree n D k m w → Same n D (reference_draw_units_with d visit r k m) (mapped_reference_with d walk r w)
    unfolding reference_draw_units_with mapped_reference_with
    reference_with_same d visit walk hv r k m w a = by (eqb (grid_count r.grid) 0) (leb d 1)
      where
        by : (b t : Bool)
            → let y = cond t (tally 1 w) (walk r.source w) in
            Same n D (cond b (counted 0 k m) (cond t (scaled (grid_count r.grid) (counted 1 k m)) (scaled (grid_count r.grid) (visit r.source k m)))) (cond b (tally 0 w) (tally (grid_count r.grid ⊠ y.units) y.maps))
        by true t = record { units = refl; agree = a }
        by false true = record { units = refl; agree = a }
        by false false = record { units = ap (λ (u : ℕ). grid_count r.grid ⊠ u) (hv r.source k m w a).units; agree = (hv r.source k m w a).agree }

    found_same : (visit : PreparedReference → List ℕ → List ℕ → Units) (walk : PreparedReference → Maps → Tally) → ((r : PreparedReference) (k m : List ℕ) (w : Maps) → Agree n D k m w → Same n D (visit r k m) (walk r w))
        → (o : Option PreparedReference) (k m : List ℕ) (w : Maps) → Agree n D k m w → Same n D (found_draw_units visit o k m) (mapped_found walk o w)
    unfolding found_draw_units mapped_found
    found_same visit walk hv none k m w a = record { units = refl; agree = a }
    found_same visit walk hv (some r) k m w a = hv r k m w a

    -- THE MEMORY: at every depth that a plan reaches, a reference counts the same over the places and over the maps, and the two agree afterwards
    pub reference_same : (d : ℕ) → d ≤ D → (r : PreparedReference) (k m : List ℕ) (w : Maps) → Agree n D k m w → Same n D (reference_draw_units S n d r k m) (mapped_reference S d r w)
    unfolding reference_draw_units mapped_reference
    reference_same zero h r k m w a = reference_with_same zero _ _ (λ x k m w a. record { units = refl; agree = a }) r k m w a
    reference_same (suc d) h r k m w a =
        reference_with_same (suc d) _ _
        (λ x k m w a. source_same (numbered_draw_units S n d) (λ r w. mapped_found (mapped_reference S d) (S.reference r) w)
        (λ r k m w a. found_same _ _ (reference_same d (omega arith)) (S.reference r) k m w a) x k m w d a (omega arith)) r k m w a
