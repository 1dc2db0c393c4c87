pub mod Endings
pub mod Spelling
