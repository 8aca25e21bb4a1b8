-- Laws of the definitions in specs/.
pub mod Examples
pub mod Numbers
pub mod FirstMembers
pub mod Rewriting
pub mod Steps
pub mod Calling
pub mod NormalValue
pub mod NormalDemand
pub mod Missing
pub mod NormalAdded
pub mod NormalKept
