-- The right side of a join, shifted behind the left one, in document 01's words ("Classes").
-- To be read in this order: Shifting, Lent. Lent says how pairs are lent as numbers. Inner is for the functions.
pub mod Shifting
pub mod Lent
pub mod Inner
