pub mod Around
pub mod Values
pub mod Declarations
pub mod Changes
pub mod Heads
pub mod Plain
pub mod Walk
