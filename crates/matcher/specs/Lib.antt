pub mod Match
pub mod Walk
