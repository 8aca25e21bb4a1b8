-- Document 01's small examples P1 to P13 as one table; and the sequences of calls that the demands speak of.
pub mod Paper
pub mod Sequence
