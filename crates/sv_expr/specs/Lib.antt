pub mod Front
pub mod Bounds
pub mod Reading
