-- Projecting a group, as the text does it: its two sources of classes, `new`, then its constants (document 01, "Classes").
-- To be read in this order: Group, Calls. Inner is for the functions that the public one calls.
pub mod Group
pub mod Calls
pub mod Inner
