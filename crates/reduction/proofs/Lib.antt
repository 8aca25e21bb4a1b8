-- Laws of the definitions in specs/.
pub mod Kept
pub mod Removing
pub mod Meeting
pub mod Contests
pub mod Rounds
pub mod Passes
pub mod LentLaws
pub mod Adding
pub mod Calling
