pub mod Firsts
pub mod Functions
pub mod Imports
pub mod Exports
pub mod Exporters
pub mod Calls
pub mod Link
