pub mod Choices
pub mod Fits
pub mod Visits
pub mod Holding
pub mod Steps
pub mod Lists
