pub mod Inverted
pub mod Padding
pub mod TextLemmas
pub mod Widths
