-- Laws of the definitions in specs/.
pub mod Examples
pub mod Refusals
pub mod Writing
pub mod Rows
pub mod Layouts
pub mod Placing
pub mod NodeCells
pub mod Lending
pub mod Children
pub mod Walking
pub mod Nodes
pub mod Made
pub mod Trees
pub mod Growing
pub mod Values
pub mod Promises
