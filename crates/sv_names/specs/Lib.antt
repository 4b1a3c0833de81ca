pub mod Names
pub mod Scopes
pub mod Uses
pub mod Declaring
pub mod Blocks
pub mod Declarations
pub mod Subroutines
