pub mod Prefixed
pub mod Trees
pub mod Readings
pub mod Loops
pub mod Steps
