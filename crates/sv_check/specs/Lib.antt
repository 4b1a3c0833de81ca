pub mod Modules
pub mod Check
pub mod Facts
pub mod Formals
pub mod Design
