-- A list of classes as it is lent, in numbers: Lent says what stands where and which classes they are, Check which refusal a list gets. Inner is for the functions that the check calls.
pub mod Lent
pub mod Check
pub mod Inner
