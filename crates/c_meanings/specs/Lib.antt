pub mod Places
pub mod Sight
pub mod Declarations
pub mod Statements
pub mod File
