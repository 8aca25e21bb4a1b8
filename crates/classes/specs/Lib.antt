-- What a group of equality classes is and what each step does to it, in document 01's words ("Classes").
-- To be read in this order: Class, Group, Good, Steps, Agree. Layout says how a group lies in its struct, and nothing before it speaks of that. Calls says what the check of a lent group asks and what a call does with the group. Inner is for the functions of this crate and of those above.
pub mod Class
pub mod Group
pub mod Good
pub mod Steps
pub mod Agree
pub mod Layout
pub mod Calls
pub mod Inner
