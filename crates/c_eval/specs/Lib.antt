pub mod Whole
pub mod Operators
pub mod Values
pub mod Numbers
pub mod Pointers
pub mod Unary
pub mod Binary
pub mod Convert
