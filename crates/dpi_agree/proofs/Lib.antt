pub mod Adding
pub mod Walks
