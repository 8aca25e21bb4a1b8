-- Orderings joined and shifted, in document 01's words ("Orderings"). What joining makes stands in the crate orderings, in Lists.
-- To be read in this order: Offset, Calls, which ties the public calls to it and to Lists. Inner is for the functions that the public ones call.
pub mod Offset
pub mod Calls
pub mod Inner
