pub mod Joins
pub mod Held
