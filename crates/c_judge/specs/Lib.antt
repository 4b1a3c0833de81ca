pub mod Words
pub mod Calls
pub mod Judge
pub mod Parts
