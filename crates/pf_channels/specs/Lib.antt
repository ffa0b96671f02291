pub mod Encoding
pub mod Rows
