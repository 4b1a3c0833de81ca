pub mod Gathered
pub mod Named
pub mod Seen
pub mod Rows
