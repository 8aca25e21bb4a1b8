-- Proofs of the exported functions.
pub mod Shapes
