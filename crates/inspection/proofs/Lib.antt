pub mod Tables
pub mod Between
pub mod Inspects
