pub mod Instances
pub mod Homes
pub mod Scopes
pub mod Names
pub mod Variables
