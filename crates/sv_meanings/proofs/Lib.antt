pub mod Adding
pub mod Walking
pub mod Trees
pub mod Entering
pub mod Inner
pub mod Modules
