-- Laws of the definitions in specs/.
pub mod Codec
pub mod OneOrdering
pub mod Extending
pub mod Appending
pub mod ListChecks
pub mod ListHeld
pub mod Asking
