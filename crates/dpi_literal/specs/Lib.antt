pub mod Constants
pub mod SvNumber
pub mod Texts
