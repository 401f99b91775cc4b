pub mod Walks
pub mod Edges
pub mod Rungs
pub mod Rows
pub mod Links
pub mod Coarse
pub mod Totals
pub mod Tables
