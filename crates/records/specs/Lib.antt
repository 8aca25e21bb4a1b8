-- What a record is, how it is read from bytes, and which of two group records a join keeps, in document 01's words ("Records and the session program"). What a group's record comes to stands in the crate group_records.
-- To be read in this order: Fields, Record, Chosen.
pub mod Fields
pub mod Record
pub mod Chosen
