-- Theorems on the calls on orderings: reduction, joining, shifting, and what each call hands back.
pub mod Examples
pub mod Overlaps
pub mod Reduces
pub mod JoinLaws
pub mod ListValid
pub mod ListMade
pub mod OffsetLaws
