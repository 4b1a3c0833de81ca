pub mod Classes
pub mod Operators
pub mod Kinds
pub mod Expressions
pub mod Types
pub mod Statements
pub mod Items
