pub mod Variables
pub mod Preamble
pub mod Places
