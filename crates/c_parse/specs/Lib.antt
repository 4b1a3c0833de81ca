pub mod Front
pub mod ReadingDeclarations
pub mod ReadingStatements
pub mod ReadingFile
pub mod Answer
