-- The calls that project an expression and a list of expressions, in document 01's words ("Classes", Projecting an expression).
-- What a projection is stands in the crate projection_table, in Projecting, which is to be read before Calls. Inner is for the functions that the public ones call.
pub mod Calls
pub mod Inner
