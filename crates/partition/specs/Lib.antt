pub mod Phases
pub mod Split
pub mod Claim
pub mod Promises
