pub mod Room
pub mod Good
pub mod Adding
pub mod Agreement
pub mod Filled
pub mod Orders
pub mod Matching
