pub mod Pieces
pub mod Arguments
pub mod Strings
