pub mod Labels
pub mod Calls
pub mod Statements
pub mod Items
