-- Theorems on the enumeration from a dependency map: that the walk ends, what the orderings are that it finds, what is generated of them, what the calls answer, and worked examples.
pub mod Walked
pub mod Generated
pub mod Answers
pub mod GenerateExamples
