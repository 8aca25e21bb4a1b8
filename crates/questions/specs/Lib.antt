-- The two questions on a group, in document 01's words ("Classes").
-- To be read in this order: Questions, then Calls, which ties the public calls to it. Inner is for the functions that the public ones call.
pub mod Questions
pub mod Calls
pub mod Inner
