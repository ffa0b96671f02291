pub mod Endings
pub mod Outcomes
pub mod Steps
pub mod Turns
pub mod Whole
