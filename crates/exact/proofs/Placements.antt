-- Placements: the rules' rounded steps give the exact placement on a square sheet, up to the deepest level; the exact placement is the steps
-- without rounding, and the manual's.
pub mod Orientation
pub mod Moving
pub mod Axes
pub mod Offset
pub mod Member
pub mod Levels
pub mod Steps
pub mod Manual
