pub mod Rounds
pub mod Claim
pub mod Promises
