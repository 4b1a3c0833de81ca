pub mod Adding
pub mod ModuleLists
pub mod Takes
pub mod Marked
pub mod Reaching
pub mod Sifting
pub mod Free
pub mod Levels
