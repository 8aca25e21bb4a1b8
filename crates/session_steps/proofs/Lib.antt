-- Laws of one record of a session, and of the states that records lead to.
pub mod NodesKept
pub mod ClassesKept
pub mod OrderingsKept
pub mod KeyNumbers
pub mod Bodies
pub mod Deciding
pub mod Answering
pub mod States
pub mod Bounds
pub mod Effects
pub mod Passing
pub mod Told
