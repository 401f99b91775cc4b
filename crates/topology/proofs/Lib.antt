pub mod Orders
pub mod Reaches
pub mod Levels
pub mod Sorted
pub mod Same
