pub mod Params
pub mod Types
pub mod Same
pub mod Declarations
pub mod Again
pub mod Inner
pub mod Objects
pub mod Shared
