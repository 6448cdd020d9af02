pub mod Laws
pub mod Steps
pub mod Alive
pub mod Codes
pub mod Front
pub mod Back
