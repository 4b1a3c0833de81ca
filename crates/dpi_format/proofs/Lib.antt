pub mod CPieces
pub mod CStages
pub mod Codes
pub mod SvPieces
