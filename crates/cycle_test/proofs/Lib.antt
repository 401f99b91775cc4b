pub mod Guesses
pub mod Thins
