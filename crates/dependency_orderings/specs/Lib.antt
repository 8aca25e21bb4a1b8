-- Enumeration into lent output, in document 01's words ("Dependencies").
-- To be read in this order: Output, Calls. Inner is for the functions that the public ones call.
pub mod Output
pub mod Calls
pub mod Inner
