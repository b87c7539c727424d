-- `add_load`, `push_geometry`, `push_text` and `push_node` by code path, at the code's end of the rules.
-- Assumes nothing.
use mathlib.Core.Path.{◌≡◌}
use mathlib.Core.Bool.{true, false}
use mathlib.Core.Option.{none, some}
use Prim.Native.Nat.{ℕ, ◌≤◌, ◌<◌}
use borrow.Author.Tests.{lt-ltb, le-ltb}
use Rattle.geometry.specs.declared.bbox.WorldBBox.{WorldBBox}
use Rattle.geometry.specs.declared.placement.DVec2.{DVec2}
use Rattle.geometry.specs.declared.placement.Placement.{Placement}
use Rattle.screen.specs.declared.ScreenSize.{ScreenSize}
use Rattle.geometry.specs.Placement.{transform_point2}
use Rattle.geometry.specs.Bbox.{transform_bbox, overlaps, point_in_bbox}
use Rattle.screen.specs.Screen.{screen_size, is_subpixel, is_dense_batch}
use Rattle.records.specs.declared.PreparedGeometry.{PreparedGeometry}
use Rattle.records.specs.declared.PreparedText.{PreparedText}
use Rattle.records.specs.Sources.{no_label}
use Rattle.abstract_sheet.specs.Sheet.{NodeRecord}
use Rattle.plan_rules.specs.Limits.{max_load_proxies}
use Rattle.plan_rules.specs.declared.Fixed.{Fixed}
use Rattle.plan_rules.specs.declared.Reason.{Reason}
use Rattle.plan_rules.specs.declared.Reason.TheVariants as reason
use Rattle.plan_rules.specs.Event.{batch, text, point, proxy, dropped_proxy, skipped_batch, culled_batch}
use Rattle.plan_rules.specs.World.{hides, detail_budget_exhausted, go, halt}
use Rattle.plan_rules.specs.Push as push
use Rattle.plan_rules.specs.OnTape.{Given, Output, query, say, add_load, push_geometry, push_text, push_point, push_points, push_node}

-- ---- `add_load`

module _ (y : Reason) (l : ℕ) (b : WorldBBox) (w : Output) where
  pub load_listed : w.state.load_proxies < max_load_proxies → add_load y l b w ≡ say (proxy y l b) w
  unfolding push.add_load
  load_listed h = rw (lt-ltb _ _ h)

  pub load_dropped : max_load_proxies ≤ w.state.load_proxies → add_load y l b w ≡ say (dropped_proxy y l b) w
  unfolding push.add_load
  load_dropped h = rw (le-ltb _ _ h)

-- a batch's placed box, its size on the screen, and a point's position
abbrev box_of : Placement → PreparedGeometry → WorldBBox
box_of p x = transform_bbox p x.bbox

abbrev size_of : Fixed → Placement → PreparedGeometry → ScreenSize
size_of f p x = screen_size (box_of p x) f.options.zoom

abbrev position_of : Placement → NodeRecord → ℕ → DVec2
position_of p x j = transform_point2 p (x.point j)

module _ {f : Fixed} (g : Given f) where
  module _ (n : ℕ) (p : Placement) (w : Output) where
    -- ---- `push_geometry`

    pub geometry_missing : g.sheet.geometry n ≡ none → push_geometry g n p w ≡ w
    unfolding push.push_geometry push.push_found_geometry
    geometry_missing e = rw e

    module _ {x : PreparedGeometry} (e : g.sheet.geometry n ≡ some x) where
      pub geometry_hidden : hides (query g) x.layer x.data_type ≡ true → push_geometry g n p w ≡ w
      unfolding push.push_geometry push.push_found_geometry
      geometry_hidden h = rw (e, h)

      module _ (shown : hides (query g) x.layer x.data_type ≡ false) where
        pub geometry_culled : overlaps (box_of p x) f.options.view ≡ false → push_geometry g n p w ≡ say culled_batch w
        unfolding push.push_geometry push.push_found_geometry
        geometry_culled a = rw (e, shown, a)

        module _ (seen : overlaps (box_of p x) f.options.view ≡ true) where
          pub geometry_skipped : is_subpixel (size_of f p x) ≡ true → push_geometry g n p w ≡ say (skipped_batch (box_of p x)) w
          unfolding push.push_geometry push.push_found_geometry
          geometry_skipped a = rw (e, shown, seen, a)

          module _ (large : is_subpixel (size_of f p x) ≡ false) where
            pub geometry_dense : is_dense_batch (size_of f p x) x.element_count ≡ true → push_geometry g n p w ≡ add_load reason.DenseBatch no_label (box_of p x) w
            unfolding push.push_geometry push.push_found_geometry
            geometry_dense a = rw (e, shown, seen, large, a)

            module _ (sparse : is_dense_batch (size_of f p x) x.element_count ≡ false) where
              pub geometry_exhausted : detail_budget_exhausted (query g) w.state ≡ true → push_geometry g n p w ≡ add_load reason.OtherLimit no_label (box_of p x) w
              unfolding push.push_geometry push.push_found_geometry
              geometry_exhausted a = rw (e, shown, seen, large, sparse, a)

              pub geometry_listed : detail_budget_exhausted (query g) w.state ≡ false → push_geometry g n p w ≡ say (batch n p) w
              unfolding push.push_geometry push.push_found_geometry
              geometry_listed a = rw (e, shown, seen, large, sparse, a)

    -- ---- `push_text`

    pub text_missing : g.sheet.text n ≡ none → push_text g n p w ≡ w
    unfolding push.push_text push.push_found_text
    text_missing e = rw e

    module _ {x : PreparedText} (e : g.sheet.text n ≡ some x) where
      pub text_hidden : hides (query g) x.layer x.data_type ≡ true → push_text g n p w ≡ w
      unfolding push.push_text push.push_found_text
      text_hidden h = rw (e, h)

      module _ (shown : hides (query g) x.layer x.data_type ≡ false) where
        pub text_outside : point_in_bbox (transform_point2 p x.origin) f.options.view ≡ false → push_text g n p w ≡ w
        unfolding push.push_text push.push_found_text
        text_outside a = rw (e, shown, a)

        pub text_listed : point_in_bbox (transform_point2 p x.origin) f.options.view ≡ true → push_text g n p w ≡ say (text n (transform_point2 p x.origin)) w
        unfolding push.push_text push.push_found_text
        text_listed a = rw (e, shown, a)

    -- ---- `push_node`

    pub node_missing : g.sheet.node n ≡ none → push_node g n p w ≡ go w
    unfolding push.push_node push.push_found_node
    node_missing e = rw e

    module _ {x : NodeRecord} (e : g.sheet.node n ≡ some x) where
      pub node_hidden : hides (query g) x.layer x.node_type ≡ true → push_node g n p w ≡ go w
      unfolding push.push_node push.push_found_node
      node_hidden h = rw (e, h)

      pub node_shown : hides (query g) x.layer x.node_type ≡ false → push_node g n p w ≡ push_points g p x w
      unfolding push.push_node push.push_found_node
      node_shown h = rw (e, h)

  module _ (p : Placement) (x : NodeRecord) (j : ℕ) (w : Output) where
    pub point_outside : point_in_bbox (position_of p x j) f.options.view ≡ false → push_point g p x j w ≡ go w
    unfolding push.push_point
    point_outside a = rw a

    module _ (inside : point_in_bbox (position_of p x j) f.options.view ≡ true) where
      pub point_exhausted : detail_budget_exhausted (query g) w.state ≡ true → push_point g p x j w ≡ halt w
      unfolding push.push_point
      point_exhausted b = rw (inside, b)

      pub point_listed : detail_budget_exhausted (query g) w.state ≡ false → push_point g p x j w ≡ go (say (point x.layer x.node_type (position_of p x j)) w)
      unfolding push.push_point
      point_listed b = rw (inside, b)
