pub mod Rows
pub mod Indices
pub mod Heads
pub mod Crossing
