-- Laws of the definitions in specs/.
pub mod LentParts
pub mod ListCounts
pub mod LentBuild
pub mod NumberLaws
