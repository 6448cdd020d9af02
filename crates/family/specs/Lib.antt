pub mod Members
pub mod Families
