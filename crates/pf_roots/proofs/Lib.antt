pub mod Values
pub mod Kept
pub mod Puts
pub mod Whole
