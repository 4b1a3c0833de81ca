pub mod Exports
pub mod Functions
pub mod Linked
pub mod Pair
pub mod Verdict
