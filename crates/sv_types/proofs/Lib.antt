pub mod Choices
pub mod Words
pub mod TypeRules
pub mod DimensionRules
pub mod ImportRules
