-- Laws of the check of a lent group and of the calls on one.
pub mod Checks
pub mod HeldLaws
pub mod Calling
