pub mod Roots
pub mod Ends
pub mod Stages
pub mod Lines
