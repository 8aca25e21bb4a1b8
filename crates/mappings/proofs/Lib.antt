-- Laws of the definitions in specs/.
pub mod Walks
pub mod Targets
pub mod PlaceReads
pub mod StructTests
pub mod MappingChecked
pub mod LentSources
pub mod MappingBuild
pub mod ProjectNumbers
