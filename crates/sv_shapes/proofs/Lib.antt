pub mod Within
pub mod Parts
pub mod Many
pub mod Limits
pub mod Clean
