pub mod Document
pub mod Escaped
pub mod Places
pub mod Words
