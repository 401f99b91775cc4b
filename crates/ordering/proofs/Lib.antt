pub mod Waiting
pub mod Opens
pub mod Free
pub mod Within
pub mod Searching
pub mod Sweeps
