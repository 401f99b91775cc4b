pub mod Move
pub mod Entries
pub mod Pass
pub mod Own
