pub mod Layout
pub mod Filled
