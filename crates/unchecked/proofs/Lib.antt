-- Laws of the exported inner functions.
pub mod Carried
