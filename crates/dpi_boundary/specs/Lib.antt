pub mod Table
pub mod Fits
pub mod Functions
pub mod Kinds
pub mod Signatures
