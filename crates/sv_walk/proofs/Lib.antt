pub mod Notes
pub mod Patterns
pub mod Trees
pub mod Comparing
pub mod Walking
pub mod Entering
