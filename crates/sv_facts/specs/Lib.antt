pub mod Facts
pub mod Exprs
