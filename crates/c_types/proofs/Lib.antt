pub mod BaseWords
pub mod BaseRules
pub mod BaseTurns
pub mod TypeRules
