-- Laws of the definitions in specs/.
pub mod Examples
pub mod OrderLaws
pub mod ProductLaws
pub mod ListLaws
pub mod Chains
pub mod Choices
pub mod BoundLaws
