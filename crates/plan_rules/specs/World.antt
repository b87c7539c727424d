-- What the rules work on: the query, the state with what events are sent to and the lent scratch, and loops that may stop early.
-- Definitions only; rests on the declared types.
use Rattle.std.specs.Prelude.{Bool, true, false, ◌||◌, List, [], ◌∷◌, ℕ, zero, suc, ◌+◌, ◌*◌, leb, eqb, set, Float}
use Rattle.geometry.specs.declared.bbox.WorldBBox.{WorldBBox}
use Rattle.plan_rules.specs.declared.ScenePlan.{ScenePlan}
use Rattle.plan_rules.specs.declared.SceneOptions.{SceneOptions}
use Rattle.plan_rules.specs.Limits.{max_detail_cells, max_text_instances, max_load_proxies}

-- ---- the query

-- "A query: root cell 4, depth 4, view 4 f, zoom f, hidden layers (layer × 65,536 + data type, 4 each)", with the plan's object limit.
pub record Query : Type 0 where
  pub root : ℕ
  pub depth : ℕ
  pub view : WorldBBox
  pub zoom : Float
  pub hidden : List ℕ
  pub object_limit : ℕ

-- the query that the code is handed: its options, the lent hidden layers and its object limit
abbrev pub query_of : SceneOptions → List ℕ → ℕ → Query
query_of q hidden limit = record { root = q.root; depth = q.depth; view = q.view; zoom = q.zoom; hidden = hidden; object_limit = limit }

unfoldable pub contains : List ℕ → ℕ → Bool
contains [] key = false
contains (x ∷ xs) key = eqb x key || contains xs key

-- `hidden_layers.contains(&layer)`: "layer × 65,536 + data type"
unfoldable pub hides : Query → ℕ → ℕ → Bool
hides q layer type = contains q.hidden (layer * 65536 + type)

-- ---- limits

-- `self.plan.stats.detail_cells >= MAX_DETAIL_CELLS`
unfoldable pub detail_cells_full : ScenePlan → Bool
detail_cells_full s = leb max_detail_cells s.detail_cells

-- `detail_budget_exhausted`
unfoldable pub detail_budget_exhausted : Query → ScenePlan → Bool
detail_budget_exhausted q s = leb q.object_limit s.detail_objects || leb max_text_instances s.texts || leb max_load_proxies s.load_proxies

-- ---- worlds

-- the state, what the events were sent to, and the two lent scratches
pub record World (A : Type 0) : Type 0 where
  pub state : ScenePlan
  pub out : A
  pub counts : List ℕ
  pub marks : List ℕ

-- a visit goes on, or is over: the Rust's early `return`, and the `true` or `false` of `push_node` and `visit_source`
pub data Flow (A : Type 0) : Type 0 where
  go : World A → Flow A
  halt : World A → Flow A

module _ {A : Type 0} where
  abbrev pub world : ScenePlan → A → List ℕ → List ℕ → World A
  world s o k m = record { state = s; out = o; counts = k; marks = m }

  abbrev pub bind : Flow A → (World A → Flow A) → Flow A
  bind (go w) next = next w
  bind (halt w) next = halt w

  -- the world in which a visit ends, early or not
  abbrev pub ending : Flow A → World A
  ending (go w) = w
  ending (halt w) = w

  -- every `for`: a step for each of `count` numbers from i on, until one halts
  unfoldable pub each : (ℕ → World A → Flow A) → ℕ → ℕ → World A → Flow A
  each step zero i w = go w
  each step (suc count) i w = bind (step i w) (each step count (i + 1))

  abbrev pub set_mark : ℕ → ℕ → World A → World A
  set_mark place value w = world w.state w.out w.counts (set w.marks place value)
