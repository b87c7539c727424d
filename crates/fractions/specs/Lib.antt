-- Exact placement on fractions, for document 02's paper 14.
--     Fraction     fractions over a power of two, their sum and product, the value of a float
--     Placement    document 01's placement steps without rounding
--     Bounds       the bounds of a slanted sheet's numbers
--     Errors       how far a rounded placement may be off, by the number of references
--     Whole        statement: on whole numbers it is the placement of `exact`
pub mod Fraction
pub mod Placement
pub mod Bounds
pub mod Errors
pub mod Whole
