-- What the projection of an expression is, in document 01's words ("Classes", Projecting an expression), and the table of the projections of all nodes.
-- To be read in this order: Projecting, Inner.
pub mod Projecting
pub mod Inner
