pub mod Work
pub mod On
