-- Laws of the definitions in specs/, each stated for any test and any element.
pub mod Each
pub mod First
pub mod Table
pub mod Booleans
pub mod Determined
pub mod Runs
pub mod RunsD
pub mod RunsC
pub mod RunsA
pub mod RunsB
