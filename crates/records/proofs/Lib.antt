-- Laws of the definitions in specs/.
pub mod KindView
pub mod Headers
pub mod Reading
pub mod Items
pub mod Choices
pub mod Numbers
pub mod FieldBytes
pub mod Records
pub mod ChosenParts
pub mod Examples
