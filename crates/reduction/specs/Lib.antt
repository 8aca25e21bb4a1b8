-- Reduction of a list of orderings, and lists of keys lent as numbers, in document 01's words ("Orderings").
-- To be read in this order: Comparing, Reduction, Apart, Lent. Fewer has laws alone, on which the equations in Reduction rest. Calls ties the public calls to both. Inner is for the functions that the public ones call.
pub mod Comparing
pub mod Fewer
pub mod Reduction
pub mod Apart
pub mod Lent
pub mod Calls
pub mod Inner
