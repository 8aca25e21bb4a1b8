-- Laws of the definitions in specs/.
pub mod WalkLaws
pub mod WayLaws
pub mod Marks
pub mod Frames
pub mod Keeps
pub mod Walks
pub mod Turns
