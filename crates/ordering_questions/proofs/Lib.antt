-- Laws of the definitions in specs/.
pub mod Leads
pub mod Asking
