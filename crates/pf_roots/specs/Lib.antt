pub mod Moved
pub mod Kept
pub mod Puts
