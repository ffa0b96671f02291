pub mod Tested
pub mod Selecting
pub mod Receiving
pub mod Flushing
