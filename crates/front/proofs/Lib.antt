pub mod Far
pub mod Laws
pub mod Turns
