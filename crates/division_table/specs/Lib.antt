pub mod Division
pub mod Promises
pub mod Fewest
pub mod Weighed
