pub mod Thin
pub mod Guess
