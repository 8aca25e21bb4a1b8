-- What an arena of expressions is and what each call does to it, in document 01's words.
-- To be read in this order: Refusals, Node, Expression, Value, Arena, Calls. Layout says how an arena lies in the lent cells, and nothing before it speaks of cells. Inner is for the functions that the public ones call.
pub mod Refusals
pub mod Node
pub mod Expression
pub mod Value
pub mod Arena
pub mod Layout
pub mod Calls
pub mod Inner
