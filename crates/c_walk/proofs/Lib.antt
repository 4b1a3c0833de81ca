pub mod Walking
pub mod Filling
pub mod Defining
pub mod Noted
pub mod Trees
pub mod Numbered
