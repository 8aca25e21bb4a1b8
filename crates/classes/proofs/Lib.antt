-- Laws of the definitions in specs/.
pub mod Places
pub mod Numbers
pub mod Marks
pub mod Codec
pub mod Members
pub mod Rebuilding
pub mod Turns
pub mod GroupLayout
pub mod ClassPlaces
pub mod OneClass
pub mod Judging
