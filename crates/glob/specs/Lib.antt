pub mod Glob
