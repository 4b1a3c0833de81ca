pub mod Told
pub mod Fakes
pub mod FilesInMemory
