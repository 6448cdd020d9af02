pub mod Lists
pub mod Joining
pub mod Fixed
pub mod Orders
pub mod Meaning
