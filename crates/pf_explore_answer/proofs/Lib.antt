pub mod Seeds
pub mod Answering
