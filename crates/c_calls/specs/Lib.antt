pub mod Refusals
pub mod Expressions
pub mod Statements
pub mod Files
