-- What a session holds and what one record does to it, in document 01's words ("Records and the session program").
-- To be read: State. Inner is for the functions of this crate and for the loop over the records.
pub mod State
pub mod Inner
