-- Laws of the definitions in specs/, and of joining.
pub mod Suffixes
pub mod Collecting
pub mod JoinLoops
pub mod Calling
pub mod Offsets
pub mod KeyTests
pub mod KeyWalk
pub mod OffsetCall
