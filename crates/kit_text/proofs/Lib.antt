pub mod Room
pub mod Claims
