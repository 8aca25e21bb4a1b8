-- What a projection mapping is, how it is lent, and how it is checked, in document 01's words ("Numbers that bound the work", "Classes").
-- To be read in this order: Mapping, Lent, Calls. Layout says how a mapping lies in its struct.
pub mod Mapping
pub mod Lent
pub mod Layout
pub mod Calls
pub mod Agree
