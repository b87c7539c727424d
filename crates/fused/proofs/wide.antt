-- Lemmas on numbers of 128 bits.
mod Shifts
mod LeadingBits
