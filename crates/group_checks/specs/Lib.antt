-- What opening a group and the question for the class of an expression answer, in document 01's words ("Classes"). What a group is, and its check, stand in specs/ of the crate classes.
pub mod Calls
