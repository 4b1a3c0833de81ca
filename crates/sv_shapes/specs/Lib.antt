pub mod Bounds
pub mod Elements
pub mod Dimensions
pub mod Limits
pub mod Kinds
pub mod Formals
pub mod Imports
