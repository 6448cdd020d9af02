pub mod Across
pub mod Algebra
pub mod Choices
pub mod Laws
pub mod Loops
pub mod Numbered
pub mod Steps
pub mod Table
