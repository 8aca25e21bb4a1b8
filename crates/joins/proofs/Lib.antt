-- Laws of the definitions in specs/.
pub mod KindTable
pub mod JoinNumbers
pub mod EquatedPairs
pub mod Joins
