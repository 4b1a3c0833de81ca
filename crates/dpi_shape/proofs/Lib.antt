pub mod Elements
pub mod Places
pub mod Cells
pub mod Walks
