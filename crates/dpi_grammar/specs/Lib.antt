pub mod Told
pub mod Faults
pub mod Parser
pub mod Choices
