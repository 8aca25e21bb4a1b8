-- Laws of the definitions in specs/.
pub mod GroupWalk
pub mod Shape
pub mod Apart
pub mod GroupCopy
pub mod GroupBuild
pub mod GroupRecords
pub mod GroupExamples
pub mod GroupWritten
