pub mod Range
pub mod Leaf
pub mod Dims
pub mod Shape
