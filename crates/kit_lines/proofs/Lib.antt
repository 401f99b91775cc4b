pub mod Says
pub mod Lines
pub mod Accepted
pub mod Checks
pub mod Refused
mod Examples
