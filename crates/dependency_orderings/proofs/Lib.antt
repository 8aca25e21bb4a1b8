-- Laws of the definitions in specs/.
pub mod WrittenLaws
pub mod Measures
pub mod GatherLaws
pub mod AnswerLaws
