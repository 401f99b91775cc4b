pub mod Cause
pub mod Faults
pub mod Check
pub mod Repeat
pub mod Words
pub mod Drawn
pub mod Promises
pub mod Sound
