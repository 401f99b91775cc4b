pub mod Rules
pub mod Tests
pub mod Next
pub mod Rounds
pub mod Promises
