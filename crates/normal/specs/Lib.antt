-- The normal form of an expression, in document 01's words ("Classes", Normal form).
-- To be read in this order: Normal, Missing, Calls. Missing says what adding an expression adds; theorems cite it, and no contract. Inner is for the functions that the public one calls.
pub mod Normal
pub mod Missing
pub mod Calls
pub mod Inner
