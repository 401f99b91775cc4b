pub mod Order
pub mod Level
pub mod Reach
