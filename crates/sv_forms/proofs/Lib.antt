pub mod Notes
pub mod CallForms
pub mod StatementForms
