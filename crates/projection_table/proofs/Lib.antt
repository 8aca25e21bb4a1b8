-- Laws of the definitions in specs/.
pub mod Sources
pub mod Becoming
pub mod TableLaws
