pub mod Modules
pub mod Instances
pub mod Preorder
pub mod Tops
pub mod Cycles
