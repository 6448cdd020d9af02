pub mod Heads
pub mod Places
