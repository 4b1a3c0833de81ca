pub mod Front
pub mod ReadingVariables
pub mod ReadingChanges
pub mod ReadingStatements
