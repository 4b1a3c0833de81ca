pub mod Places
pub mod Declarations
pub mod Changes
pub mod Statements
pub mod Items
pub mod Files
