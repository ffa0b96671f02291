pub mod Own
pub mod Lifted
pub mod Kept
pub mod Done
pub mod Sliced
pub mod Taken
pub mod Responded
