pub mod StatementForms
