pub mod Functions
pub mod Sizes
pub mod Inside
pub mod Objects
