pub mod Adding
pub mod StatementLists
pub mod BlockLists
pub mod Exporting
