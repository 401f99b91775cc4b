pub mod Joining
pub mod Lent
