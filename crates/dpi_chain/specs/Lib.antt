pub mod Tree
pub mod Splits
pub mod Reading
