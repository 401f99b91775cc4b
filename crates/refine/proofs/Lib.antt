pub mod Tables
pub mod Lists
pub mod Bridge
pub mod Rung
pub mod Down
