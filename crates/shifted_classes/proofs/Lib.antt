-- Laws of the definitions in specs/.
pub mod ShiftOnce
pub mod Reaching
pub mod Placings
pub mod PairPlaces
pub mod ShiftedParts
