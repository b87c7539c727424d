-- What the two conversions' proofs cite.
mod Counting  -- a count as the nearest f32
mod Narrowing  -- an f64 by its pattern, in general
mod Range  -- what two comparisons say of the pattern
mod Normals  -- the short form within that range
