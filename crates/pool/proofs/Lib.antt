pub mod Words
pub mod Pools
