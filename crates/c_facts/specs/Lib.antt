pub mod Widths
pub mod Facts
pub mod Exprs
