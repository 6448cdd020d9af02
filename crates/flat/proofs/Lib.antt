pub mod Round
pub mod Walk
pub mod Head
pub mod Filling
