-- Questions 8 to 11 of document 01, "Before a plan: the questions": of the view, the zoom, the depth and the lent scratch.
-- Definitions only; rests on `Limits` and `Scratch`.
use Rattle.std.specs.Prelude.{Bool, false, cond, ◌&&◌, ℕ, leb, pos, Float, Result, Ok, Err}
use Rattle.std.specs.Float.{fin}
use Rattle.std.specs.Float.Ieee.{le, lt}
use Rattle.floats.specs.Order.{is_finite}
use Rattle.geometry.specs.declared.bbox.WorldBBox.{WorldBBox}
use Rattle.plan_rules.specs.declared.refusal.QueryError.{QueryError}
use Rattle.plan_rules.specs.declared.refusal.QueryError.TheVariants.{View, Zoom, Depth, Scratch}
use Rattle.plan_rules.specs.Limits.{max_depth}
use Rattle.plan_rules.specs.Scratch.{counts_named, marks_named}

-- 8: "Is the view finite, min at most max?"
unfoldable pub view_ok : WorldBBox → Bool
view_ok v =
    is_finite v.min_x && is_finite v.min_y && is_finite v.max_x && is_finite v.max_y
    && le v.min_x v.max_x && le v.min_y v.max_y

-- 9: "Is zoom finite and above 0?"
unfoldable pub zoom_ok : Float → Bool
zoom_ok z = is_finite z && lt (fin false 0 (pos 0)) z

-- 10: "Is depth at most 32?", of the greatest depth that is answered and a query's: document 01 asks it of 32, document 02, paper 13, of `max_depth`
unfoldable pub depth_ok : ℕ → ℕ → Bool
depth_ok deepest depth = leb depth deepest

-- 11: "Has the counts scratch cells × depth 64-bit places, and the marks scratch cells × (depth + 2) bytes?"
unfoldable pub has_scratch : ℕ → ℕ → ℕ → ℕ → Bool
has_scratch cells depth counts marks = leb (counts_named cells depth) counts && leb (marks_named cells depth) marks

-- "The first no is given": the refusal's number, or 0 where there is none. After the greatest depth, view, zoom and depth: the sheet's cells, and how many counts
-- and marks are lent.
unfoldable pub query_refusal_up_to : ℕ → WorldBBox → Float → ℕ → ℕ → ℕ → ℕ → ℕ
query_refusal_up_to deepest view zoom depth cells counts marks =
    cond (view_ok view) (cond (zoom_ok zoom) (cond (depth_ok deepest depth) (cond (has_scratch cells depth counts marks) 0 11) 10) 9) 8

-- the number of each error of a query, and 0 where there is none
abbrev pub query_number : QueryError → ℕ
query_number View = 8
query_number Zoom = 9
query_number Depth = 10
query_number Scratch = 11

abbrev pub refusal_of : Result Unit QueryError → ℕ
refusal_of (Ok none) = 0
refusal_of (Err e) = query_number e

-- with question 10 as it is asked
abbrev pub query_refusal : WorldBBox → Float → ℕ → ℕ → ℕ → ℕ → ℕ
query_refusal = query_refusal_up_to max_depth
