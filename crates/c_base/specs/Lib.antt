pub mod Base
pub mod Types
