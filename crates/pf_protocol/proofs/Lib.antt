pub mod Splitting
pub mod Shorter
pub mod Completed
