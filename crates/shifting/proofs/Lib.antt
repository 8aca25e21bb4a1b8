-- Laws of the definitions in specs/.
pub mod Examples
pub mod Lifts
pub mod Moves
pub mod Values
pub mod Shifts
pub mod Promises
