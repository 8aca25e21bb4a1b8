-- What each answer of a call on nodes or groups comes to in numbers.
pub mod Answers
