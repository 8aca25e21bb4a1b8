-- The normal forms of sort keys, in document 01's words ("Classes", Normal form).
-- To be read in this order: Keys, Layout, Calls, after Normal of the crate normal. Layout says how keys lie in lent numbers and in the struct that is handed back, and nothing before it speaks of that. Inner is for the functions that the public ones call.
pub mod Keys
pub mod Layout
pub mod Calls
pub mod Inner
