-- Orderings and lists of them, in document 01's words ("Orderings").
-- To be read in this order: Ordering, Lists, Good. Layout says how a list of orderings lies in its struct, and nothing before it speaks of that. Calls ties the public calls to both. Inner is for the functions that the public ones call. The two questions stand in the crate ordering_questions, what reduction is in reduction, and what a shift is in ordering_joins.
pub mod Ordering
pub mod Lists
pub mod Good
pub mod Layout
pub mod Calls
pub mod Inner
