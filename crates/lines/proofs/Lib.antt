-- Laws of text and of writing it.
pub mod Lengths
pub mod Puts
pub mod Digits
pub mod Chains
