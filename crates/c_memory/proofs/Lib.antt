pub mod Searched
pub mod Found
pub mod Tables
pub mod Changes
pub mod Writes
pub mod Types
