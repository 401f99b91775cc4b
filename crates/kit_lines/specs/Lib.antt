pub mod Forms
pub mod Kit
pub mod Grammar
pub mod Scan
