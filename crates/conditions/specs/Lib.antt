-- The calls that change a group, in document 01's words ("Classes"). What each does to the classes stands in the specs of the crate classes (Group); Steps adds the refusals and sequences of calls, Calls the lent cells and the struct.
pub mod Steps
pub mod Calls
