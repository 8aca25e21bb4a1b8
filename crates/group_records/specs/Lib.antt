-- What a group's record comes to, in document 01's words ("Records and the session program"). What a record is stands in the crate records.
-- GroupRecord is to be read. Inner is for the functions that the public one calls.
pub mod GroupRecord
pub mod Inner
