pub mod LookUps
pub mod Naming
pub mod Kept
pub mod Followed
