pub mod Steps
pub mod Splitting
