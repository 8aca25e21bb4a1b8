-- What the definitions of classes, conditions and questions come to together, and the demands that they meet.
pub mod Step
pub mod Answers
pub mod Chains
pub mod Staying
pub mod Conditions
pub mod Limits
pub mod GoodKept
pub mod Demands
pub mod Asked
pub mod Valid
