pub mod Table
pub mod Inspect
pub mod Promises
