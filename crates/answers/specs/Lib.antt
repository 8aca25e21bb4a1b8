-- What each answer of a call on orderings, dependency maps, records or sessions comes to in numbers.
pub mod Answers
