pub mod Before
pub mod Formals
pub mod Imports
pub mod Signatures
