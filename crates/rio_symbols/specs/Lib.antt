pub mod Crc5
pub mod Delimiters
pub mod Fields
pub mod Spelling
