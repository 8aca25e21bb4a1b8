-- Enumeration from a dependency map, in document 01's words ("Dependencies"): the walk.
-- To be read in this order: Walk, Bounds. Inner is for the functions that the public ones call.
pub mod Walk
pub mod Bounds
pub mod Inner
