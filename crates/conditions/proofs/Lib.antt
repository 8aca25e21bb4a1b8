-- Laws of the definitions in specs/.
pub mod ClearLaws
pub mod ConstantLaws
pub mod EquatingLaws
pub mod Calling
