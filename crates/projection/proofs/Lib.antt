-- Laws of the definitions in specs/.
pub mod RowLaws
pub mod WalkLaws
pub mod ListLaws
pub mod Written
pub mod CallLaws
