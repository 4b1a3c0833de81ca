pub mod Adding
pub mod Notes
pub mod ExpressionForms
pub mod StatementForms
