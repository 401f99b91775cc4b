pub mod Copying
pub mod Merging
pub mod Carrying
