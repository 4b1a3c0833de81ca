pub mod HeaderWords
pub mod FormalRules
pub mod HeaderRules
pub mod BodyRules
pub mod ItemRules
pub mod FileRules
pub mod FileAnswers
