pub mod Assignments
pub mod Actuals
pub mod Patterns
pub mod Conditions
pub mod Cases
pub mod Formats
