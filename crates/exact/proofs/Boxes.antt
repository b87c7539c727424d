-- Boxes: what encloses what, placed boxes and reference boxes on integers, and that the rules' rounded boxes are these on a square sheet.
pub mod Relations
pub mod Corners
pub mod Ends
pub mod Place
pub mod Reference
pub mod Transform
pub mod ReferenceRounded
pub mod Tests
pub mod Reading
