pub mod Numbered
pub mod Inner
pub mod Seen
pub mod Listed
pub mod Told
