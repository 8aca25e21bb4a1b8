-- What a session is, from bytes to bytes, in document 01's words ("Records and the session program").
-- To be read in this order: State of the crate session_steps, then Text of the crate lines, then Session. Inner is for the functions that the public one calls.
pub mod Session
pub mod Inner
