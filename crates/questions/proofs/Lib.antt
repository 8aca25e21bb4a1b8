-- Laws of the definitions in specs/.
pub mod Asking
pub mod PlaceNumbers
pub mod Pairs
pub mod Equality
pub mod Constancy
pub mod Calling
