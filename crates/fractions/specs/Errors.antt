-- HOW FAR A ROUNDED PLACEMENT MAY BE OFF on a slanted sheet, in units of 2 ^ -53, by the number of references above it: a recurrence, and from it the bound on a position.
-- Of each number there are two bounds: E, the error, and B, the magnitude of the exact one. Definitions only; that they are bounds is proved in proofs/. Assumes nothing.
use Rattle.std.specs.Prelude.{ℕ, zero, suc, ◌+◌, ◌*◌, ◌^◌}

-- ---- operations: a rounding of a result of magnitude B is off by B, and by 1 more for results that reach beyond B by what they are off

-- of numbers with errors E and F and magnitudes B and C; the errors' own product is 1 at most
abbrev pub product_error : ℕ → ℕ → ℕ → ℕ → ℕ
product_error E B F C = suc (B * C) + (E * C + 1 + B * F)

-- a x + b y, where E, B are of a and b, and F, C of x and y
abbrev pub linear_error : ℕ → ℕ → ℕ → ℕ → ℕ
linear_error E B F C = suc (B * C + B * C) + (product_error E B F C + product_error E B F C)

-- a x + b y + t, where G, D are of t
abbrev pub move_error : ℕ → ℕ → ℕ → ℕ → ℕ → ℕ → ℕ
move_error E B F C G D = suc (B * C + B * C + D) + (linear_error E B F C + G)

-- ---- one member

-- cos or sin times the magnification
abbrev pub member_axis_error : ℕ
member_axis_error = product_error 0 1 0 1

-- spacing_x * column + spacing_y * row: at most 2 ^ 35
abbrev pub offset_error : ℕ
offset_error = linear_error 0 (2 ^ 24) 0 (2 ^ 10)

-- turned, the one fused operation: at most 2 ^ 36
abbrev pub rotated_error : ℕ
rotated_error = suc (2 ^ 35 + 2 ^ 35) + (offset_error + 1 + product_error offset_error (2 ^ 35) 0 1)

-- and the origin
abbrev pub member_bound : ℕ
member_bound = 2 ^ 24 + 2 ^ 36

abbrev pub member_shift_error : ℕ
member_shift_error = suc member_bound + (0 + rotated_error)

-- ---- below n references

-- a coordinate of the axes
unfoldable pub axis_bound : ℕ → ℕ
axis_bound zero = 1
axis_bound (suc n) = axis_bound n * 1 + axis_bound n * 1

unfoldable pub axis_error : ℕ → ℕ
unfolding axis_bound
axis_error zero = 0
axis_error (suc n) = linear_error (axis_error n) (axis_bound n) member_axis_error 1

-- of the translation
unfoldable pub shift_bound : ℕ → ℕ
unfolding axis_bound
shift_bound zero = 0
shift_bound (suc n) = axis_bound n * member_bound + axis_bound n * member_bound + shift_bound n

unfoldable pub shift_error : ℕ → ℕ
unfolding axis_bound axis_error shift_bound
shift_error zero = 0
shift_error (suc n) = move_error (axis_error n) (axis_bound n) member_shift_error member_bound (shift_error n) (shift_bound n)

-- of a position within ±2^24 that is placed
unfoldable pub position_bound : ℕ → ℕ
unfolding axis_bound shift_bound
position_bound n = axis_bound n * 2 ^ 24 + axis_bound n * 2 ^ 24 + shift_bound n

unfoldable pub position_error : ℕ → ℕ
unfolding axis_bound axis_error shift_bound shift_error
position_error n = move_error (axis_error n) (axis_bound n) 0 (2 ^ 24) (shift_error n) (shift_bound n)

-- Up to so many references the recurrence is shown to bound. Eight is chosen: what the proof asks, errors of at most one unit, holds a little further.
abbrev pub most_bounded : ℕ
most_bounded = 8
