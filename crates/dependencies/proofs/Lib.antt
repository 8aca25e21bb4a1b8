-- Laws of the definitions in specs/.
pub mod MapChecks
pub mod MapCodec
pub mod MapInserts
pub mod MapCalls
