-- Theorems on the dependency map: what an insert makes of it, and what each call hands back.
pub mod MapExamples
pub mod Inserts
pub mod GoodMaps
pub mod InsertTheorems
