pub mod Tables
pub mod Rung
pub mod Down
