pub mod ByName
pub mod Composed
