-- What shifting an expression of an arena is, in document 01's words.
-- To be read in this order: Shift, Calls. Inner is for the functions that the public one calls.
pub mod Shift
pub mod Calls
pub mod Inner
