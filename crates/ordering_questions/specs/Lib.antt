-- The two questions on a list of orderings, in document 01's words ("Orderings").
-- To be read in this order: Questions, Calls.
pub mod Questions
pub mod Calls
