pub mod Gathers
pub mod Flows
pub mod Follows
