pub mod Choice
pub mod Promises
