pub mod Places
pub mod Claims
pub mod Arranges
pub mod Solves
pub mod Listed
pub mod Layers
pub mod Chooses
