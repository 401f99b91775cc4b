pub mod Entries
pub mod Buffer
pub mod Saved
pub mod Claims
