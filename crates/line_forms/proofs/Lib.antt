pub mod Form
pub mod Lines
pub mod Steps
pub mod Rows
pub mod Stand
