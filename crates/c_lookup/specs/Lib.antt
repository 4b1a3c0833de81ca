pub mod Facts
pub mod Names
pub mod Functions
pub mod Objects
pub mod Meanings
