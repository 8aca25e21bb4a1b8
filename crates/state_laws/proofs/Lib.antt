-- Theorems on states as arrays of numbers: what a call hands back fits its cells, and what is written is what is read.
pub mod GroupFit
pub mod ListFit
pub mod MapFit
pub mod RoundTrips
