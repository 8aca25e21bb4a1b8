-- Theorems on projection, over the definitions that its contracts cite, and worked examples.
pub mod ProjectedValue
pub mod ProjectedList
pub mod LentOver
pub mod ProjectedCalls
pub mod ListValues
pub mod Examples
pub mod GroupNumbers
pub mod GroupAgrees
pub mod GroupHanded
pub mod GroupConstants
pub mod GroupExamples
