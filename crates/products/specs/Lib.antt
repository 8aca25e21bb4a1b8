-- The orderings of several dependencies, in document 01's words ("Dependencies"): products and orders.
-- To be read in this order: Orders, Generate. Inner is for the functions that the public ones call.
pub mod Orders
pub mod Generate
pub mod Inner
