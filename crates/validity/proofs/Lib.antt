pub mod Checks
pub mod Repeats
pub mod Passed
