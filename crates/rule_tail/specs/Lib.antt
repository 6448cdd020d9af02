pub mod Tails
pub mod Places
