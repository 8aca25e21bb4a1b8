-- Groups of the two sides of a join, in document 01's words ("Classes"). How a list of classes becomes a group stands in the crate merging, how the right side is shifted and how pairs are lent as numbers in the crate shifted_classes.
-- To be read in this order: Kinds, Joining, Calls. Inner is for the functions that the public one calls.
pub mod Kinds
pub mod Joining
pub mod Calls
pub mod Inner
