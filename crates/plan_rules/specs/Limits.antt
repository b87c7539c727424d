-- The limits of a plan, each in this one place.
-- Document 01: "Limits: 20,000 cells in detail, 20,000 objects, 10,000 texts, 100,000 proxies"; question 10, "Is depth at most 32?", which document 02, paper 13, asks of 48; "Totals stop at 2^64 − 1".
-- Rust: the constants at the head of bevy_scene.rs. Definitions only; rests on nothing.
use Rattle.std.specs.Prelude.{ℕ}

-- `MAX_DETAIL_CELLS`
abbrev pub max_detail_cells : ℕ
max_detail_cells = 20000

-- `MAX_SCENE_OBJECTS`: the object limit of a plan. The rules take it from the query, so that a plan may be given another.
abbrev pub max_scene_objects : ℕ
max_scene_objects = 20000

-- `MAX_TEXT_INSTANCES`
abbrev pub max_text_instances : ℕ
max_text_instances = 10000

-- `MAX_LOAD_PROXIES`
abbrev pub max_load_proxies : ℕ
max_load_proxies = 100000

-- the depth that a query may ask for. Paper 13: "Only depth above 48 gets number 10."
abbrev pub max_depth : ℕ
max_depth = 48

-- the largest total: 2^64 − 1
abbrev pub max_total : ℕ
max_total = 18446744073709551615
