pub mod Firsts
pub mod Imports
pub mod Exports
