pub mod CFirst
pub mod CFormat
pub mod SvFirst
pub mod SvFormat
