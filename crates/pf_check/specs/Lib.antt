pub mod Module
pub mod Encoding
pub mod Reads
pub mod Reading
