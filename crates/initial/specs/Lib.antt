pub mod Initial
pub mod Positions
pub mod Promises
