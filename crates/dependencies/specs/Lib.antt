-- The dependency map, in document 01's words ("Dependencies").
-- To be read in this order: Map, Layout, Calls. Inner is for the functions that the public ones call.
pub mod Map
pub mod Layout
pub mod Calls
pub mod Inner
