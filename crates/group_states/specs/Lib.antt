-- A group as a lent array of numbers: how it lies in its cells.
-- Groups says it. Inner is for the functions that the public ones call.
pub mod Groups
pub mod Inner
