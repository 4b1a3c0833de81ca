pub mod Adding
pub mod Walking
pub mod InnerLists
pub mod SameTypes
pub mod Kept
