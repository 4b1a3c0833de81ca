pub mod Pointer
pub mod CellType
pub mod Object
pub mod Kept
pub mod Memory
pub mod Rows
pub mod Seen
