-- States as lent arrays of numbers: how each lies in its cells.
-- To be read in this order: Cells, Orders, Maps. A group stands in the crate group_states. Inner is for the functions that the public ones call.
pub mod Cells
pub mod Orders
pub mod Maps
pub mod Inner
