pub mod Trees
pub mod Adding
