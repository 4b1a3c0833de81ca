pub mod Sight
pub mod Around
pub mod Sizes
pub mod Objects
pub mod Declarations
pub mod Statements
pub mod File
