pub mod Pickers
