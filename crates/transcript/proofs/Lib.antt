-- Laws of a session, and what it promises.
pub mod Saying
pub mod Scripts
pub mod LineLengths
pub mod Running
pub mod Transcribing
pub mod Sessions
pub mod Examples
