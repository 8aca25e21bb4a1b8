-- Laws of the definitions in specs/.
pub mod Missing
pub mod Meetings
pub mod Dropping
pub mod Bridges
pub mod Smaller
pub mod MadeLaws
pub mod NewLaws
pub mod Overlaps
pub mod PushedClass
pub mod Reaching
