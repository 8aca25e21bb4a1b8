-- Laws of the definitions in specs/.
pub mod KeyLaws
pub mod Uniform
pub mod Sorting
pub mod SortCall
pub mod KeyCalls
pub mod KeysKept
