-- Proofs of the functions that read and write states.
pub mod Taken
pub mod Stored
