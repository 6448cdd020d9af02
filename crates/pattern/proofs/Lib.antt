pub mod Codes
pub mod Laws
pub mod Literals
pub mod Names
