pub mod Adding
pub mod DeclaredLists
pub mod BlockLists
pub mod ItemNumbers
