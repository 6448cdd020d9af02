pub mod Findings
pub mod Weighed
