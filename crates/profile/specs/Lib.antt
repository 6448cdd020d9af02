pub mod Profiles
pub mod Places
