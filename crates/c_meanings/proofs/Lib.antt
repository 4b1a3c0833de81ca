pub mod Adding
pub mod Telling
pub mod Filling
pub mod Trees
pub mod Parts
pub mod Numbered
