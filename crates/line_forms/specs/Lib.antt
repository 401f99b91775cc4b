pub mod Form
pub mod Lent
pub mod Lines
pub mod Read
pub mod Stand
pub mod Run
