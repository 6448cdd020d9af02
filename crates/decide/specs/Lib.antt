pub mod Decide
pub mod Places
