pub mod Cells
pub mod InFiles
pub mod Filling
