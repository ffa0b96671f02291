pub mod Asked
pub mod Failing
pub mod Steps
pub mod Branching
pub mod Level
pub mod Explored
