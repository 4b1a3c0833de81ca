pub mod Headers
pub mod Reading
pub mod Faults
pub mod Answer
