pub mod Move
pub mod Signed
pub mod Gains
pub mod Spread
pub mod Entries
pub mod Visits
pub mod Own
pub mod Claims
