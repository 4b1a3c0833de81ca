pub mod Declarations
pub mod Statements
pub mod Files
