-- Theorems on answers in numbers.
pub mod Refused
