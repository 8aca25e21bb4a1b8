-- Groups that are made of lists of classes: `new` with bridging, in document 01's words ("Classes").
-- To be read in this order: Extending, Merging, Chain, Calls. How a list of classes is lent as numbers, and its check, stand in the crate lent_classes, and nothing before Calls speaks of that. Inner is for the functions that the public one calls.
pub mod Extending
pub mod Merging
pub mod Chain
pub mod Calls
pub mod Inner
